-- What is written of the entries of a range of time, and which days are read.
use Rattle.std.specs.Prelude.{◌≡◌, ℕ, ℤ, ◌&&◌, ◌||◌, Bool, true, not, is_none, List, [], Option, Some, None, IfSome}
use Rattle.std.specs.Prelude.{codes, if◌then◌else◌}
use Rattle.std.specs.Int.Signed.{le_z}
use Rattle.archive_text.specs.Entries.{Entry}
use Rattle.archive_text.specs.Text.{entry_text}
use Rattle.archive_sets.specs.Conditions.{IsInRange}
use Rattle.archive_sets.specs.declared.range.InRange.{InRange}
use Rattle.store_reading.specs.Days.{HasInstant, IsDayText, IsFrom, IsUpTo}

-- whether an instant is not before a bound
abbrev pub is_from : Option ℤ → ℤ → Bool
is_from None i = true
is_from (Some f) i = le_z f i

-- whether it is before a bound
abbrev pub is_to : Option ℤ → ℤ → Bool
is_to None i = true
is_to (Some t) i = not (le_z t i)

-- whether an instant, or none, is in a range
abbrev pub is_inside : Option ℤ → Option ℤ → Bool → Option ℤ → Bool
is_inside from to undated None = (is_none from && is_none to) || undated
is_inside from to undated (Some i) = is_from from i && is_to to i

abbrev pub is_in : InRange → Entry → Bool
is_in r e = is_inside r.from r.to r.undated e.instant

-- the text of an entry of the range; of any other none
abbrev pub text_in : InRange → Entry → List ℕ
text_in r e = if is_in r e then entry_text e else []

-- a day may have a record in a range: the range has those without a time, where the day is theirs; else not all
-- instants of the day are before the range, nor all behind it
pub record MayMeet (range : InRange) (day : List ℕ) : Type 0 where
  pub dated : IsDayText day
  pub undated : day ≡ codes "undated" → IsInRange range.from range.to range.undated None
  pub from : IfSome range.from (λ (from : ℤ). HasInstant day → ¬ (IsUpTo from day))
  pub to : IfSome range.to (λ (to : ℤ). HasInstant day → ¬ (IsFrom to day))
