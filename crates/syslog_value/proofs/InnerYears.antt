-- The years whose civil times all name an instant in range.
use Rattle.std.proofs.Common.{◌≡◌, ℕ, ◌≤◌, arith, inl, refl}
use Rattle.std.specs.Prelude.{ℤ, pos, neg_ℤ, ◌≤ℤ◌, ◌+ℤ◌, ◌-ℤ◌, ◌*ℤ◌}
use Rattle.jiff_core.specs.Calendar.{days_from_civil}
use Rattle.jiff_core.proofs.CalendarLemmas.{days_from_civil-day_count}
use Rattle.jiff_core.proofs.DateLemmas.{epoch_day-lt}
use Rattle.jiff_core.proofs.MarchLemmas.{day_count-early, day_count-late}
use Rattle.jiff_core.proofs.SignedLemmas.{signed_arith}
use Rattle.syslog_value.specs.declared.civil.Civil.{Civil}
use Rattle.syslog_value.specs.declared.instant.TimeFault.{TimeFault}
use Rattle.syslog_value.specs.declared.instant.TimeFault.TheVariants.{NoSuchDate, NoSuchTime, BadOffset, OutOfRange}
use Rattle.syslog_value.specs.Calendar.{IsDay, day_number}
use Rattle.syslog_value.specs.Instants.{IsCivil, IsFault, IsOffset, instant_of, second_of_day}
use Rattle.syslog_value.specs.Parts.{IsInstant}
use Rattle.syslog_value.proofs.DayNumbers.{day_number-same}
use Rattle.syslog_value.proofs.CivilTimes.{date_of}

-- a year from 1 to 9998
abbrev pub IsInner : ℕ → Type 0
IsInner y = (1 ≤ y) × (y ≤ 9998)

last_of_year_0 : days_from_civil (pos 0) 12 31 ≡ neg_ℤ (pos 719_163)
last_of_year_0 = omega (
  arith,
  signed_arith,
  days_from_civil-day_count (pos 0) 12 31,
  day_count-late (pos 0) 10000 12 31 refl (omega arith) (omega arith) (omega arith),
)

first_of_year_9999 : days_from_civil (pos 9999) 1 1 ≡ pos 2_932_532
first_of_year_9999 = omega (
  arith,
  signed_arith,
  days_from_civil-day_count (pos 9999) 1 1,
  day_count-early (pos 9999) 19998 1 1 refl (omega arith) (omega arith) (omega arith),
)

abbrev Within : ℤ → Type 0
Within day = (neg_ℤ (pos 719_162) ≤ℤ day) × (day ≤ℤ pos 2_932_531)

day_in_range : (y m d : ℕ) → IsInner y → IsDay y m d → Within (day_number y m d)
unfolding date_of
day_in_range y m d year h =
    let low = epoch_day-lt (date_of 0 12 31 (omega arith, omega arith, omega arith, omega arith, omega arith))
    (date_of y m d h) (inl (omega (arith, signed_arith, year.0))) in
    let high = epoch_day-lt (date_of y m d h)
    (date_of 9999 1 1 (omega arith, omega arith, omega arith, omega arith, omega arith))
    (inl (omega (arith, signed_arith, year.1))) in
    let is = day_number-same y m d h.3 in
    (omega (arith, signed_arith, low, last_of_year_0, is), omega (arith, signed_arith, high, first_of_year_9999, is))

joined : (day o : ℤ) (s u : ℕ) → Within day → IsOffset o → s ≤ 86_399 → u ≤ 999_999
    → IsInstant ((day *ℤ pos 86_400 +ℤ pos s -ℤ o *ℤ pos 60) *ℤ pos 1_000_000 +ℤ pos u)
joined day o s u (dl, dh) (ol, oh) sh uh = (omega (arith, signed_arith), omega (arith, signed_arith))

-- a civil time of such a year names an instant in range, whatever the offset
pub in_range : (c : Civil) (o : ℤ) → IsInner c.year → IsCivil c → IsOffset o → IsInstant (instant_of c o)
in_range c o year h offset =
    joined (day_number c.year c.month c.day) o (second_of_day c) c.micros (day_in_range c.year c.month c.day year h.0)
    offset (omega (arith, h.1.0, h.1.1, h.1.2)) h.1.3

pub no_fault : (c : Civil) (o : ℤ) (fault : TimeFault) → IsInner c.year → IsCivil c → IsOffset o → IsFault c o fault → ⊥
no_fault c o NoSuchDate year h offset f = f h.0
no_fault c o NoSuchTime year h offset f = f.1 h.1
no_fault c o BadOffset year h offset f = f.1 offset
no_fault c o OutOfRange year h offset f = f.2 (in_range c o year h offset)
