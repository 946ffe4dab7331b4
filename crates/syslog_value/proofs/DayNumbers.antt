-- The day numbers of `jiff` are those of `Calendar`.
use Rattle.std.proofs.Common.{◌≡◌, ℕ, zero, suc, ◌+◌, ◌-◌, ◌≤◌, refl, arith, pos, neg_ℤ, ◌≤ℤ◌, inl, rules}
use Rattle.std.proofs.lemmas.Bool.Decides.{nat_tests}
use Rattle.std.proofs.lemmas.Int.{by_lt_z}
use Rattle.jiff_core.specs.declared.civil.date.Date.{Date}
use Rattle.jiff_core.specs.Date.{epoch_day}
use Rattle.jiff_core.proofs.DateLemmas.{epoch_day-lt}
use Rattle.syslog_value.specs.Calendar.{is_leap, month_length, days_of_years, days_of_months, day_number}
use Rattle.jiff_core.specs.Calendar.{is_leap_year, days_in_month, days_of_years as jiff_years}
use Rattle.jiff_core.specs.Calendar.{days_of_months as jiff_months, day_count, days_from_civil}
use Rattle.jiff_core.proofs.SignedLemmas.{signed_arith}
use Rattle.jiff_core.proofs.CalendarLemmas.{days_from_civil-day_count}
use Rattle.jiff_core.proofs.MarchLemmas.{leap_day-shift, days_of_years-suc, days_of_years-march_days}

pub is_leap-same : (y : ℕ) → is_leap_year (pos y) ≡ is_leap y
is_leap-same y = grind (arith, nat_tests)

pub month_length-same : (y m : ℕ) → days_in_month (pos y) m ≡ month_length y m
month_length-same y m = rw (is_leap-same y)

pub month_most : (y m : ℕ) → month_length y m ≤ 31
month_most y m = grind (arith, nat_tests)

months-same : (y n : ℕ) → jiff_months (pos y) n ≡ days_of_months y n
unfolding jiff_months days_of_months
months-same y zero = refl
months-same y (suc n) = rw (months-same y n, is_leap-same y)

years-same : (n : ℕ) → jiff_years (n + 10000) ≡ 3_652_425 + days_of_years n
unfolding days_of_years
years-same zero = omega (arith, days_of_years-march_days 10000)
years-same (suc n) =
    let next : suc n + 10000 ≡ suc (n + 10000) = omega arith in
    let leap = leap_day-shift (pos n) (n + 10000) refl in
    rw next (rw (← is_leap-same n) (grind (arith, years-same n, days_of_years-suc (n + 10000), leap)))

pub day_number-same : (y m d : ℕ) → 1 ≤ d → days_from_civil (pos y) m d ≡ day_number y m d
unfolding day_number day_count
day_number-same y m d h =
    omega (arith, signed_arith, days_from_civil-day_count (pos y) m d, years-same y, months-same y (m - 1))

first_day : Date
first_day = record {
  year = pos 0;
  month = 1;
  day = 1;
  year_in = search rules;
  month_in = search rules;
  day_in =
      search rules;
}

pub first_day-number : day_number 0 1 1 ≡ neg_ℤ (pos 719_528)
unfolding day_number days_of_years days_of_months
first_day-number = refl

-- a date from 0000-01-01 on has no negative year
pub year-from_zero : (d : Date) → neg_ℤ (pos 719_528) ≤ℤ epoch_day d → pos 0 ≤ℤ d.year
unfolding first_day
year-from_zero d h =
    by_lt_z d.year (pos 0)
    (λ lt. absurd (omega (
      arith,
      signed_arith,
      epoch_day-lt d first_day (inl lt),
      day_number-same 0 1 1 (omega arith),
      first_day-number,
    )))
    (λ le. le)
