-- The order of octet texts: as unsigned bytes from the first on, a proper prefix first.
use Rattle.std.specs.Prelude.{◌≡◌, ℕ, ◌<◌, List, [], ◌∷◌, ⊤, ◌⊎◌}

-- the first octets that differ decide, and a proper prefix is below
abbrev pub OctetsBelow : List ℕ → List ℕ → Type 0
OctetsBelow xs [] = ⊥
OctetsBelow [] (y ∷ ys) = ⊤
OctetsBelow (x ∷ xs) (y ∷ ys) = (x < y) ⊎ ((x ≡ y) × OctetsBelow xs ys)
