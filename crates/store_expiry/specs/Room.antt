-- What goes so that the segments of a store fit in some room.
use Rattle.std.specs.Prelude.{◌≡◌, ◌⊎◌, ℕ, ◌+◌, ◌<◌, ◌≤◌, ℤ, pos, ◌-ℤ◌, ◌*ℤ◌, ◌&&◌, ◌||◌, Bool, false, List, [], ◌∷◌}
use Rattle.std.specs.Prelude.{Option, None, Some, if◌then◌else◌, length, nat_eq}
use Rattle.archive_text.specs.Periods.{IsPeriodOf}
use Rattle.archive_text.specs.declared.period.Period.TheVariants.{Day}
use Rattle.store_reading.specs.Order.{is_period_below}
use Rattle.store_expiry.specs.declared.room.SegmentSize.{SegmentSize}

-- the first instant of a day; days are counted from 0000-01-01 on, which is 719,528 days before 1970-01-01
abbrev pub midnight : ℕ → ℤ
midnight n = (pos n -ℤ pos 719_528) *ℤ pos 86_400_000_000

-- Whether a segment goes with all that is from before a day, by the name of its day: `undated` stands before all dates,
-- and goes where that is said. A mixed segment, whose name has no day, stays.
abbrev pub goes : Bool → List ℕ → Option (List ℕ) → Bool
goes undated first None = false
goes undated first (Some day) = (undated || nat_eq (length day) 10) && is_period_below day first

-- how many octets of a segment are left then
abbrev pub kept_octets : Bool → List ℕ → SegmentSize → ℕ
kept_octets undated first s = if goes undated first s.day then 0 else s.octets

-- and of all segments
abbrev pub octets_left : Bool → List ℕ → List SegmentSize → ℕ
octets_left undated first [] = 0
octets_left undated first (s ∷ ss) = kept_octets undated first s + octets_left undated first ss

-- how many octets segments have
abbrev pub octets_of : List SegmentSize → ℕ
octets_of [] = 0
octets_of (s ∷ ss) = s.octets + octets_of ss

-- so many octets are left if all goes that is from before an instant, a day's midnight
pub record IsLeft (undated : Bool) (segments : List SegmentSize) (instant : ℤ) (left : ℕ) : Type 0 where
  pub day : List ℕ
  pub of : IsPeriodOf Day (Some instant) day
  pub left_is : left ≡ octets_left undated day segments

-- at most so many octets are left at the midnight of a day
pub record FitsAt (undated : Bool) (segments : List SegmentSize) (number most : ℕ) : Type 0 where
  pub left : ℕ
  pub left_is : IsLeft undated segments (midnight number) left
  pub fits : left ≤ most

-- A midnight at which the segments that are left fit in a room, or have as little as at any midnight; and at each one
-- before it they do not fit, and more is left. So no day goes that need not.
pub record IsLeastMidnight (undated : Bool) (segments : List SegmentSize) (room : ℕ) (instant : ℤ) : Type 0 where
  pub number : ℕ
  pub within : number ≤ 3_652_424
  pub is : instant ≡ midnight number
  pub left : ℕ
  pub left_is : IsLeft undated segments instant left
  pub fits : (left ≤ room) ⊎ ((n least : ℕ) → n ≤ 3_652_424 → IsLeft undated segments (midnight n) least → left ≤ least)
  pub needed : (n more : ℕ) → n < number → IsLeft undated segments (midnight n) more → (room < more) × (left < more)
