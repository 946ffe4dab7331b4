-- Lines that are written at the end of a ledger.
use Rattle.std.specs.Prelude.{◌≡◌, ℕ, List, [], ◌∷◌, ◌++◌}
use Rattle.std.specs.List.{AllByRecursion}
use Rattle.ledger.specs.Chains.{ChainsFrom, Continues}
use Rattle.ledger.specs.Lines.{IsWorded, Said, said_of}
use Rattle.ledger.specs.Readings.{lines_text}
use Rattle.ledger.specs.declared.entry.LedgerEntry.{LedgerEntry}
use Rattle.ledger.specs.declared.head.ChainHead.{ChainHead}

-- the next line, of this time, with its line feed is behind a text
pub record PutsNext (before : ChainHead) (time : List ℕ) (s : Said) (old new : List ℕ) (behind : ChainHead) : Type 0 where
  pub line : List ℕ
  pub next : Continues before line s behind
  pub timed : next.time ≡ time
  pub text : new ≡ old ++ (line ++ 10 ∷ [])

-- all that entries say can be said
abbrev pub AreWorded : List ℕ → List LedgerEntry → Type 0
AreWorded time entries = AllByRecursion (λ e. IsWorded time (said_of e)) entries

-- a text is lines, each with its line feed, that say this, from one head to another
pub record AreNextLines (before : ChainHead) (ss : List Said) (text : List ℕ) (behind : ChainHead) : Type 0 where
  pub lines : List (List ℕ)
  pub chained : ChainsFrom before lines ss behind
  pub text_is : text ≡ lines_text lines
