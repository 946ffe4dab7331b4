-- Archives of half-open ranges of instants.
use Rattle.std.specs.Prelude.{◌≡◌, ◌≤ℤ◌, ℕ, ℤ, false, List, [], ◌∷◌, Option, Some}
use Rattle.std.specs.List.{AllByRecursion}
use Rattle.archive_text.specs.Entries.{Entry}
use Rattle.archive_text.specs.Text.{IsArchive}
use Rattle.archive_sets.specs.Conditions.{IsInRange}
use Rattle.archive_sets.specs.declared.range.InRange.{InRange}

-- a range that ends here has no instant in common with one that begins there, and lies before it
abbrev pub EndsBefore : Option ℤ → Option ℤ → Type 0
EndsBefore (Some to) (Some from) = to ≤ℤ from
EndsBefore to from = ⊥

-- a range lies before another, and that has no record without a time
pub record Precedes (r s : InRange) : Type 0 where
  pub apart : EndsBefore r.to s.from
  pub dated : s.undated ≡ false

-- each range lies before all that follow it; so the first alone may have records without a time
abbrev pub AreInTurn : List InRange → Type 0
AreInTurn [] = Unit {0}
AreInTurn (r ∷ rs) = AllByRecursion (Precedes r) rs × AreInTurn rs

-- the entry is in the range
abbrev pub IsOfRange : InRange → Entry → Type 0
IsOfRange r e = IsInRange r.from r.to r.undated e.instant

-- for each range an archive of entries that are in it
abbrev pub AreOfRanges : ℕ → List InRange → List (List Entry) → Type 0
AreOfRanges most [] [] = Unit {0}
AreOfRanges most (r ∷ rs) (xs ∷ xss) = IsArchive most xs × AllByRecursion (IsOfRange r) xs × AreOfRanges most rs xss
AreOfRanges most rs xss = ⊥
