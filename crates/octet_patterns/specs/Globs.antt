-- Texts that are like a pattern.
use Rattle.std.specs.Prelude.{◌≡◌, ◌≢◌, ℕ, ◌⊎◌, List, [], ◌∷◌, ◌++◌, Option, None, Some, length}
use Rattle.std.specs.List.{AllByRecursion}
use Rattle.octet_language.specs.Language.{Each, Language}

-- what an octet of a pattern stands for: "*" (42) for any octets, "?" (63) for any one octet, each for itself
abbrev pub Piece : ℕ → Language
Piece c x = (c ≡ 42) ⊎ ((c ≡ 63) × (length x ≡ 1)) ⊎ (x ≡ c ∷ [])

-- the texts that are like a pattern: for each octet what it stands for, one behind the other
abbrev pub IsLike : List ℕ → Language
IsLike pattern = Each Piece pattern

-- ---- the parts of a pattern

-- a part without "*"
abbrev pub IsRun : List ℕ → Type 0
IsRun run = AllByRecursion (λ c. c ≢ 42) run

-- an octet of a run fits one of a text: it is "?" or the same
abbrev pub Fits : ℕ → ℕ → Type 0
Fits c x = (c ≡ 63) ⊎ (c ≡ x)

-- a text that is like the run stands here
pub record Stands (run text before here behind : List ℕ) : Type 0 where
  pub parts : text ≡ before ++ here ++ behind
  pub like : IsLike run here

-- such a text stands first before `rest`: what is behind any other one ends it
pub record StandsFirst (run text rest : List ℕ) : Type 0 where
  pub before : List ℕ
  pub here : List ℕ
  pub stands : Stands run text before here rest
  pub first : (x y z : List ℕ) → Stands run text x y z → (w : List ℕ) × (rest ≡ w ++ z)

-- what is behind the first place where a text is like a run, if there is one
abbrev pub IsBehindFirst : List ℕ → List ℕ → Option (List ℕ) → Type 0
IsBehindFirst run text None = (x y z : List ℕ) → ¬ (Stands run text x y z)
IsBehindFirst run text (Some rest) = StandsFirst run text rest

-- the parts before and behind the first "*" of a pattern, if it has one
abbrev pub IsPartedAt : List ℕ → Option (List ℕ × List ℕ) → Type 0
IsPartedAt pattern None = IsRun pattern
IsPartedAt pattern (Some (run, rest)) = IsRun run × (pattern ≡ run ++ 42 ∷ rest)
