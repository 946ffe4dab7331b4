-- Every instant in range has a civil time in UTC.
use Rattle.std.proofs.Common.{◌≡◌, ℕ, zero, suc, ◌+◌, ◌-◌, ◌*◌, ◌/◌, ◌%◌, ◌<◌, ◌≤◌, Bool, true, false, refl, ◌∙◌, arith}
use Rattle.std.proofs.Common.{inl, inr, pos, negsuc}
use Rattle.std.specs.Prelude.{ℤ, if◌then◌else◌, ◌-ℤ◌}
use Rattle.std.proofs.lemmas.Bool.{cases_lt}
use Rattle.jiff_core.proofs.DateLemmas.{days_from_civil-max}
use Rattle.jiff_core.proofs.SignedLemmas.{signed_arith}
use Rattle.syslog_value.specs.Calendar.{IsDay, day_number, days_of_months, days_of_years, is_leap, month_length}
use Rattle.syslog_value.specs.Calendar.{year_length}
use Rattle.syslog_value.specs.Instants.{IsCivil, instant_of}
use Rattle.syslog_value.specs.Parts.{IsInstant}
use Rattle.syslog_value.specs.declared.civil.Civil.{Civil}
use Rattle.syslog_value.proofs.DayNumbers.{day_number-same}

-- ---- the date of a day

-- the year in which a day lies
record YearOf (k n : ℕ) : Type 0 where
  year : ℕ
  before : year < k
  from : days_of_years year ≤ n
  within : n < days_of_years year + year_length year

year_later : (k n : ℕ) → YearOf k n → YearOf (suc k) n
year_later k n y = record { year = y.year; before = omega (arith, y.before); from = y.from; within = y.within }

year_of : (k n : ℕ) → n < days_of_years k → YearOf k n
unfolding days_of_years
year_of zero n h = absurd (omega (arith, h))
year_of (suc k) n h =
    elim (cases_lt n (days_of_years k)) [
      | inl less ↦ year_later k n (year_of k n less)
      | inr from ↦ record { year = k; before = omega arith; from = from; within = h }
    ]

-- the month, counted from 0, in which a day of a year lies
record MonthOf (y k n : ℕ) : Type 0 where
  month : ℕ
  before : month < k
  from : days_of_months y month ≤ n
  within : n < days_of_months y month + month_length y (suc month)

month_later : (y k n : ℕ) → MonthOf y k n → MonthOf y (suc k) n
month_later y k n m = record { month = m.month; before = omega (arith, m.before); from = m.from; within = m.within }

month_of : (y k n : ℕ) → n < days_of_months y k → MonthOf y k n
unfolding days_of_months
month_of y zero n h = absurd (omega (arith, h))
month_of y (suc k) n h =
    elim (cases_lt n (days_of_months y k)) [
      | inl less ↦ month_later y k n (month_of y k n less)
      | inr from ↦ record { month = k; before = omega arith; from = from; within = h }
    ]

by_leap : (leap : Bool) → 0 + 31 + (if leap then 29 else 28) + 31 + 30 + 31 + 30 + 31 + 31 + 30 + 31 + 30 + 31
    ≡ (if leap then 366 else 365)
by_leap true = refl
by_leap false = refl

-- the months of a year make the year
months_all : (y : ℕ) → days_of_months y 12 ≡ year_length y
unfolding days_of_months
months_all y = by_leap (is_leap y)

last_months : days_of_months 9999 11 ≡ 334
unfolding days_of_months
last_months = refl

last_day : day_number 9999 12 31 ≡ pos 2_932_896
last_day = let same = day_number-same 9999 12 31 (omega arith) in let is = days_from_civil-max in cc

-- the years from 0 to 9999
years_all : days_of_years 10_000 ≡ 3_652_425
unfolding days_of_years day_number
years_all =
    let last : days_of_years 9999 ≡ 3_652_060 = omega (arith, signed_arith, last_day, last_months) in
    let more : days_of_years 10_000 ≡ days_of_years 9999 + year_length 9999 = refl in
    omega (arith, last, more)

-- a date with its day number
pub record DateOf (n : ℕ) : Type 0 where
  pub year : ℕ
  pub month : ℕ
  pub day : ℕ
  pub exists : IsDay year month day
  pub number : day_number year month day ≡ pos n -ℤ pos 719_528

number_of : (n y m d : ℕ) → days_of_years y + days_of_months y m + d ≡ n
    → day_number y (suc m) (suc d) ≡ pos n -ℤ pos 719_528
unfolding day_number
number_of n y m d sum =
    let month : suc m - 1 ≡ m = omega arith in
    let day : suc d - 1 ≡ d = omega arith in
    rw (month, day, sum) refl

pub date_of : (n : ℕ) → n < 3_652_425 → DateOf n
date_of n h =
    let y = year_of 10_000 n (omega (arith, h, years_all)) in
    let rest = n - days_of_years y.year in
    let m = month_of y.year 12 rest (omega (arith, y.from, y.within, months_all y.year)) in
    let d = rest - days_of_months y.year m.month in
    let sum : days_of_years y.year + days_of_months y.year m.month + d ≡ n = omega (arith, y.from, m.from) in
    record {
      year = y.year;
      month = suc m.month;
      day = suc d;
      exists = (
        omega (arith, y.before),
        omega arith,
        omega (arith, m.before),
        omega arith,
        omega (arith, m.from, m.within),
      );
      number = number_of n y.year m.month d sum;
    }

-- ---- the civil time of an instant

-- the microseconds from the start of the year 0
since_zero : ℤ → ℕ
since_zero (pos n) = n + 62_167_219_200_000_000
since_zero (negsuc n) = 62_167_219_200_000_000 - suc n

since_zero_is : (z : ℤ) → IsInstant z → pos (since_zero z) -ℤ pos 62_167_219_200_000_000 ≡ z
unfolding since_zero
since_zero_is (pos n) h = omega (arith, signed_arith)
since_zero_is (negsuc n) h = omega (arith, signed_arith, h.0)

since_zero_small : (z : ℤ) → IsInstant z → since_zero z < 3_652_425 * 86_400_000_000
unfolding since_zero
since_zero_small (pos n) h = omega (arith, signed_arith, h.1)
since_zero_small (negsuc n) h = omega (arith, signed_arith)

pub record CivilOf (z : ℤ) : Type 0 where
  pub civil : Civil
  pub exists : IsCivil civil
  pub names : instant_of civil (pos 0) ≡ z

at_time : (u : ℕ) → DateOf (u / 86_400_000_000) → Civil
at_time u d =
    let second = u % 86_400_000_000 / 1_000_000 in
    record {
      year = d.year;
      month = d.month;
      day = d.day;
      hour = second / 3600;
      minute = second / 60 % 60;
      second = second % 60;
      micros = u % 86_400_000_000 % 1_000_000;
    }

has_time : (u : ℕ) (d : DateOf (u / 86_400_000_000)) → IsCivil (at_time u d)
unfolding at_time
has_time u d = (d.exists, (omega arith, omega arith, omega arith, omega arith))

names_instant : (u : ℕ) (d : DateOf (u / 86_400_000_000))
    → instant_of (at_time u d) (pos 0) ≡ pos u -ℤ pos 62_167_219_200_000_000
unfolding at_time
names_instant u d = rw d.number (omega (arith, signed_arith))

pub civil_of : (z : ℤ) → IsInstant z → CivilOf z
civil_of z h =
    let u = since_zero z in
    let d = date_of (u / 86_400_000_000) (omega (arith, since_zero_small z h)) in
    record { civil = at_time u d; exists = has_time u d; names = names_instant u d ∙ since_zero_is z h }
