-- What was sealed stands where nothing is found.
use Rattle.std.specs.Prelude.{◌≡◌, ◌⊎◌, ℕ, List, [], ◌∷◌, ◌++◌, Some, IsSomeAnd}
use Rattle.std.specs.Borrow.{Bor}
use Rattle.std.specs.List.{Any}
use Rattle.disk.specs.States.{Files}
use Rattle.store_reading.specs.Days.{IsPeriodText}
use Rattle.store_reading.specs.Whole.{IsWholeSegment}
use Rattle.store_upkeep.specs.Whole.{IsWholeAt}
use Rattle.ledger.specs.Chains.{ChainsFrom, IsLedger}
use Rattle.ledger.specs.Laws.{Collide, IsCollision, IsExpiry, IsSealedAt}
use Rattle.ledger.specs.Lines.{Said}
use Rattle.ledger.specs.Readings.{lines_text}
use Rattle.ledger.specs.Standings.{standing}
use Rattle.ledger.specs.declared.head.ChainHead.{ChainHead}
use Rattle.ledger_engine.specs.Findings.{FindsNothing, IsFoundOf}
use Rattle.ledger_engine.specs.Known.{ledger_text}
use Rattle.ledger_engine.specs.declared.findings.LedgerFindings.{LedgerFindings}

-- a text is the one that was sealed, or the two differ and have one SHA-256
abbrev pub IsSealedText : List ℕ → List ℕ → Type 0
IsSealedText old new = (new ≡ old) ⊎ IsCollision old new

-- for each text that was sealed under the name of its segment there is a file, or a line that follows tells that the
-- segment expired
abbrev pub IsKeptOrTold : Files → List Said → List Said → Type 0
IsKeptOrTold files said behind =
    (period name old : List ℕ) → IsPeriodText period → IsSealedAt (standing name said) → IsWholeSegment period name old
    → IsSomeAnd (files name) (IsSealedText old) ⊎ Any (IsExpiry name) behind

-- before a line that was published the ledger has the lines that it had then, those behind it continue their chain, and
-- what was sealed is kept, or is told by those to have expired
pub record IsIntact (files : Files) (published before after : List (List ℕ)) (said : List Said) (h : ChainHead) : Type 0 where
  pub same : published ≡ before
  pub behind : List Said
  pub end : ChainHead
  pub chained : ChainsFrom h after behind end
  pub kept : IsKeptOrTold files said behind

-- the ledger that there is has the line, and is intact, or collides with the one that had it when it was published
pub record StandsBehind (files : Files) (published : List (List ℕ)) (line : List ℕ) (said : List Said) (h : ChainHead) : Type
    0 where
  pub before : List (List ℕ)
  pub after : List (List ℕ)
  pub torn : List ℕ
  pub text : files ledger_text ≡ Some (lines_text (before ++ line ∷ after) ++ torn)
  pub stands : IsIntact files published before after said h ⊎ Collide (published ++ line ∷ []) (before ++ line ∷ [])

-- where nothing is found against a line that was published, and each file is whole, what was sealed before it stands
abbrev pub SealsStand : Type 0
SealsStand =
    (files : Files) (line : Bor (List ℕ)) (f : LedgerFindings) → IsFoundOf files (Some line) f → FindsNothing f
    → ((name : List ℕ) → IsWholeAt files name) → (published : List (List ℕ)) (said : List Said) (h : ChainHead)
    → IsLedger (published ++ line.now ∷ []) said h → StandsBehind files published line.now said h
