-- Parts that come first in octets, one after the other.
use Rattle.std.specs.Prelude.{◌≡◌, ◌≢◌, ℕ, List, ◌∷◌, ◌⊎◌}
use Rattle.octet_language.specs.Language.{IfFirst}

-- the first part of octets: its value, and what follows it
abbrev pub Part : Type 0 → Type 1
Part V = V → List ℕ → List ℕ → Type 0

-- the octets do not begin with such a part
abbrev pub Lacks : {V : Type 0} → Part V → List ℕ → Type 0
Lacks {V} P b = (v : V) (rest : List ℕ) → ¬ (P v b rest)

-- a part, or this value where it does not come
abbrev pub Optional : {V : Type 0} → Part V → V → Part V
Optional {V} P none v b rest = P v b rest ⊎ (Lacks P b × (v ≡ none) × (rest ≡ b))

-- without this octet, if it comes first
abbrev pub Without : ℕ → List ℕ → List ℕ → Type 0
Without x b rest = (b ≡ x ∷ rest) ⊎ (IfFirst (λ y. y ≢ x) b × (rest ≡ b))
