-- Two ledgers that agree at a line, and segments that stay listed.
use Rattle.std.specs.Prelude.{◌≡◌, ◌≢◌, ◌+◌, ◌-◌, ◌⊎◌, List, [], ◌∷◌, ◌++◌, ℕ, true, IsSomeAnd, None, Option, drop, length, take}
use Rattle.std.specs.List.{Any}
use Rattle.sha2.specs.Sha256.{sha256}
use Rattle.ledger.specs.Chains.{ChainsFrom, IsChained, IsLedger, start}
use Rattle.ledger.specs.Lines.{Said}
use Rattle.ledger.specs.Standings.{behind_line, standing}
use Rattle.ledger.specs.Words.{word_and}
use Rattle.ledger.specs.declared.entry.Event.TheVariants.{Gone}
use Rattle.ledger.specs.declared.entry.Removal.TheVariants.{Expired}
use Rattle.ledger.specs.declared.head.ChainHead.{ChainHead}
use Rattle.ledger.specs.declared.standing.Listed.{Listed}

-- what the chain of a line is the SHA-256 of: the chain before, a space, and the line up to the space before its
-- chain
abbrev pub hashed_text : List ℕ → List ℕ → List ℕ
hashed_text before line = word_and before (take (length line - 65) line)

-- the chain that a line ends with
abbrev pub chain_of : List ℕ → List ℕ
chain_of line = drop (length line - 64) line

-- two texts, and one SHA-256
pub record IsCollision (a b : List ℕ) : Type 0 where
  pub apart : a ≢ b
  pub same : sha256 a ≡ sha256 b

-- behind these two chains, at lines of the same place, the one text is hashed for one list of lines and the other for
-- the other
abbrev pub CollideBehind : List ℕ → List (List ℕ) → List ℕ → List (List ℕ) → Type 0
CollideBehind c (x ∷ xs) d (y ∷ ys) =
    IsCollision (hashed_text c x) (hashed_text d y) ⊎ CollideBehind (chain_of x) xs (chain_of y) ys
CollideBehind c xs d ys = ⊥

-- somewhere in two ledgers, at a line of the same number
abbrev pub Collide : List (List ℕ) → List (List ℕ) → Type 0
Collide xs ys = CollideBehind start.chain xs start.chain ys

-- two ledgers that end with the same number and chain have the same lines, or collide
abbrev pub AgreeingLedgersAreEqual : Type 0
AgreeingLedgersAreEqual =
    (xs ys : List (List ℕ)) (g h : ChainHead) → IsChained xs g → IsChained ys h → g.number ≡ h.number
    → g.chain ≡ h.chain → (xs ≡ ys) ⊎ Collide xs ys

-- two ledgers that have a line in common have the same lines before it, or collide up to it
abbrev pub LedgersMeetAtEqualLines : Type 0
LedgersMeetAtEqualLines =
    (xs ys : List (List ℕ)) (line : List ℕ) (g h : ChainHead) → IsChained (xs ++ line ∷ []) g
    → IsChained (ys ++ line ∷ []) h → (xs ≡ ys) ⊎ Collide (xs ++ line ∷ []) (ys ++ line ∷ [])

-- behind a line in common one ledger goes on, whose lines up to it are those of another one, which ends there, and say
-- the same
pub record GoesOn (xs ys zs : List (List ℕ)) (ss ts : List Said) (g h : ChainHead) : Type 0 where
  pub same : xs ≡ ys
  pub behind : List Said
  pub chained : ChainsFrom g zs behind h
  pub says : ts ≡ ss ++ behind

-- a ledger that has the last line of another one goes on from it, or the two collide up to it
abbrev pub LedgersGoOn : Type 0
LedgersGoOn =
    (xs ys zs : List (List ℕ)) (line : List ℕ) (ss ts : List Said) (g h : ChainHead) → IsLedger (xs ++ line ∷ []) ss g
    → IsLedger (ys ++ line ∷ zs) ts h → GoesOn xs ys zs ss ts g h ⊎ Collide (xs ++ line ∷ []) (ys ++ line ∷ [])

-- of a segment is listed what its last line leaves of it, and lines on others change nothing
pub record GoesByItsLines (name : List ℕ) : Type 0 where
  pub none : standing name [] ≡ None
  pub here : (ss : List Said) (s : Said) → name ≡ s.name
      → standing name (ss ++ s ∷ []) ≡ behind_line (standing name ss) (length ss + 1) s
  pub others : (ss : List Said) (s : Said) → name ≢ s.name → standing name (ss ++ s ∷ []) ≡ standing name ss

-- a segment is listed as sealed
abbrev pub IsSealedAt : Option Listed → Type 0
IsSealedAt listed = IsSomeAnd listed (λ l. l.sealed ≡ true)

-- a line tells that the segment with a name expired
abbrev pub IsExpiry : List ℕ → Said → Type 0
IsExpiry name s = (s.name ≡ name) × (s.event ≡ Gone Expired)

-- a segment that is listed as sealed is so behind any lines that follow, or one of these tells that it expired
abbrev pub SealsStay : Type 0
SealsStay =
    (name : List ℕ) (ss ts : List Said) → IsSealedAt (standing name ss)
    → IsSealedAt (standing name (ss ++ ts)) ⊎ Any (IsExpiry name) ts
