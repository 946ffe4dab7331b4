-- Places that are in some of several ranges.
use Rattle.std.specs.Prelude.{◌≡◌, ◌⊎◌, ℤ, pos, neg_ℤ, ◌<ℤ◌, ◌≤ℤ◌, List, [], ◌∷◌, Option, None, Some, IfSome}
use Rattle.std.specs.List.{AllByRecursion}
use Rattle.archive_text.specs.Entries.{Entry}
use Rattle.reconcile.specs.Ranges.{IsInside, IsProper}
use Rattle.reconcile.specs.declared.range.Range.{Range}

-- a place is in one of the ranges
abbrev pub IsInSome : List Range → Entry → Type 0
IsInSome [] e = ⊥
IsInSome (r ∷ rs) e = IsInside r e ⊎ IsInSome rs e

-- no range is empty
abbrev pub AreAllProper : List Range → Type 0
AreAllProper rs = AllByRecursion IsProper rs

-- an instant, and not none, is from one on and before another
abbrev pub IsBetween : Option ℤ → Option ℤ → Option ℤ → Type 0
IsBetween from to None = ⊥
IsBetween from to (Some i) = IfSome from (λ (f : ℤ). f ≤ℤ i) × IfSome to (λ (t : ℤ). i <ℤ t)

-- a bound, or the first instant of all
abbrev pub StartsAt : Option ℤ → Option ℤ → Type 0
StartsAt (Some f) start = start ≡ Some f
StartsAt None start = start ≡ Some (neg_ℤ (pos 62_167_219_200_000_000))
