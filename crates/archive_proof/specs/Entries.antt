-- Where texts and entries stand.
use Rattle.std.specs.Prelude.{◌≡◌, ℕ, zero, suc, List, [], ◌∷◌}
use Rattle.archive_text.specs.Entries.{Entry}

-- the text stands behind so many others
abbrev pub IsAt : List (List ℕ) → ℕ → List ℕ → Type 0
IsAt [] i e = ⊥
IsAt (x ∷ xs) zero e = x ≡ e
IsAt (x ∷ xs) (suc i) e = IsAt xs i e

-- the entry does
abbrev pub IsEntryAt : List Entry → ℕ → Entry → Type 0
IsEntryAt [] i e = ⊥
IsEntryAt (x ∷ xs) zero e = x ≡ e
IsEntryAt (x ∷ xs) (suc i) e = IsEntryAt xs i e
