-- One instant has one civil time in UTC.
use Rattle.std.proofs.Common.{◌≡◌, ℕ, ◌≤◌, ℤ, pos, ◌+ℤ◌, ◌-ℤ◌, ◌*ℤ◌, ◌∙◌, sym, arith}
use Rattle.jiff_core.specs.declared.civil.date.Date.{Date}
use Rattle.jiff_core.proofs.DateLemmas.{epoch_day_injective}
use Rattle.jiff_core.proofs.SignedLemmas.{signed_arith}
use Rattle.syslog_value.specs.declared.civil.Civil.{Civil}
use Rattle.syslog_value.specs.Calendar.{day_number, IsDay}
use Rattle.syslog_value.specs.Instants.{IsCivil, instant_of, second_of_day}
use Rattle.syslog_value.proofs.DayNumbers.{day_number-same, month_length-same}

-- days, seconds of a day and microseconds of a second are determined by their sum
parts_of : (a b : ℤ) (s t m n : ℕ) → s ≤ 86_399 → t ≤ 86_399 → m ≤ 999_999 → n ≤ 999_999
    → (a *ℤ pos 86_400 +ℤ pos s -ℤ pos 0 *ℤ pos 60) *ℤ pos 1_000_000 +ℤ pos m
    ≡ (b *ℤ pos 86_400 +ℤ pos t -ℤ pos 0 *ℤ pos 60) *ℤ pos 1_000_000 +ℤ pos n
    → (a ≡ b) × (s ≡ t) × (m ≡ n)
parts_of a b s t m n hs ht hm hn e = (
  omega (arith, signed_arith),
  omega (arith, signed_arith),
  omega (arith, signed_arith),
)

unfoldable pub date_of : (y m d : ℕ) → IsDay y m d → Date
date_of y m d h = record {
  year = pos y;
  month = m;
  day = d;
  year_in = (omega (arith, signed_arith), omega (arith, signed_arith));
  month_in = (h.1, h.2);
  day_in = (h.3, rw month_length-same h.4);
}

pub day_number-injective : (y m d y' m' d' : ℕ) → IsDay y m d → IsDay y' m' d' → day_number y m d ≡ day_number y' m' d'
    → (y ≡ y') × (m ≡ m') × (d ≡ d')
unfolding date_of
day_number-injective y m d y' m' d' h h' e =
    let same = epoch_day_injective (date_of y m d h) (date_of y' m' d' h')
    (day_number-same y m d h.3 ∙ e ∙ sym (day_number-same y' m' d' h'.3)) in
    (omega (arith, signed_arith, same.0), same.1, same.2)

-- the civil time of these fields
abbrev civil_of : ℕ → ℕ → ℕ → ℕ → ℕ → ℕ → ℕ → Civil
civil_of y m d h i s u = record { year = y; month = m; day = d; hour = h; minute = i; second = s; micros = u }

pub same_fields : (c d : Civil) → c.year ≡ d.year → c.month ≡ d.month → c.day ≡ d.day → c.hour ≡ d.hour
    → c.minute ≡ d.minute → c.second ≡ d.second
    → c.micros ≡ d.micros → c ≡ d
same_fields c d year month day hour minute second micros =
    let same : civil_of c.year c.month c.day c.hour c.minute c.second c.micros
    ≡ civil_of d.year d.month d.day d.hour d.minute d.second d.micros =
    rw (year, month, day, hour, minute, second, micros) in
    same

pub civil-injective : (c d : Civil) → IsCivil c → IsCivil d → instant_of c (pos 0) ≡ instant_of d (pos 0) → c ≡ d
civil-injective c d hc hd e =
    let parts = parts_of (day_number c.year c.month c.day) (day_number d.year d.month d.day) (second_of_day c)
    (second_of_day d) c.micros d.micros
    (omega arith) (omega arith) hc.1.3 hd.1.3 e in
    let day = day_number-injective c.year c.month c.day d.year d.month d.day hc.0 hd.0 parts.0 in
    let hour : c.hour ≡ d.hour = omega arith in
    let minute : c.minute ≡ d.minute = omega arith in
    let second : c.second ≡ d.second = omega arith in
    same_fields c d day.0 day.1 day.2 hour minute second parts.2
