-- Octets that a text has in it.
use Rattle.std.specs.Prelude.{◌≡◌, ℕ, List, ◌++◌}

-- the octets stand somewhere in the text, one behind the other
abbrev pub HasWithin : List ℕ → List ℕ → Type 0
HasWithin octets text = (before : List ℕ) × (behind : List ℕ) × (text ≡ before ++ octets ++ behind)
