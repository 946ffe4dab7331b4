-- The order of names in which the segments of a period stand side by side.
use Rattle.std.specs.Prelude.{ℕ, ◌-◌, Bool, List, length, take}
use Rattle.std.specs.declared.cmp.Ordering.{Ordering}
use Rattle.std.specs.Cmp.Lexicographic.{slice_cmp}
use Rattle.std.specs.List.Sorted.{IsSortedBy}
use Rattle.std.specs.Ordering.{is_lt, nat_cmp, ordering_then}

-- what stands before the last 73 octets of a name: of a segment its period
abbrev pub period_of : List ℕ → List ℕ
period_of name = take (length name - 73) name

-- of two periods the shorter one comes first, as `undated` before the dates
abbrev pub compare_periods : List ℕ → List ℕ → Ordering
compare_periods a b = ordering_then (nat_cmp (length a) (length b)) (slice_cmp nat_cmp a b)

abbrev pub is_period_below : List ℕ → List ℕ → Bool
is_period_below a b = is_lt (compare_periods a b)

abbrev pub comes_before : List ℕ → List ℕ → Bool
comes_before a b = is_period_below (period_of a) (period_of b)

-- names in the order of what may be their periods
abbrev pub AreInOrder : List (List ℕ) → Type 0
AreInOrder names = IsSortedBy comes_before names
