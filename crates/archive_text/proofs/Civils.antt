-- The fields of a civil time that name a period, in the order of instants.
use Rattle.std.proofs.Common.{◌≡◌, ℕ, ◌+◌, ◌*◌, ◌<◌, ◌≤◌, ℤ, pos, ◌+ℤ◌, ◌-ℤ◌, ◌*ℤ◌, ◌<ℤ◌, ◌≤ℤ◌, inl, inr, arith}
use Rattle.jiff_core.specs.declared.civil.date.Date.{Date}
use Rattle.jiff_core.proofs.DateLemmas.{IsEarlier, cases_date, epoch_day-lt}
use Rattle.jiff_core.proofs.SignedLemmas.{signed_arith}
use Rattle.syslog_value.specs.Calendar.{day_number}
use Rattle.syslog_value.specs.Instants.{HasDate, IsCivil, instant_of, second_of_day}
use Rattle.syslog_value.specs.declared.civil.Civil.{Civil}
use Rattle.syslog_value.proofs.DayNumbers.{day_number-same, month_length-same, month_most}
use Rattle.archive_text.specs.declared.period.Period.{Period}
use Rattle.archive_text.specs.declared.period.Period.TheVariants.{Month, Day, Hour}

-- the fields that name a period, as one number
abbrev pub key : Period → Civil → ℕ
key Month c = c.year * 12 + c.month
key Day c = (c.year * 12 + c.month) * 32 + c.day
key Hour c = ((c.year * 12 + c.month) * 32 + c.day) * 24 + c.hour

-- ---- dates

abbrev date_of : (c : Civil) → HasDate c → Date
date_of c h = record {
  year = pos c.year;
  month = c.month;
  day = c.day;
  year_in = (omega (arith, signed_arith), omega (arith, signed_arith));
  month_in = (h.1, h.2);
  day_in = (h.3, rw month_length-same h.4);
}

-- the day number of a date, which comes before another
earlier_day : (c d : Civil) (hc : HasDate c) (hd : HasDate d) → IsEarlier (date_of c hc) (date_of d hd)
    → day_number c.year c.month c.day <ℤ day_number d.year d.month d.day
earlier_day c d hc hd earlier = omega (
  arith,
  signed_arith,
  epoch_day-lt (date_of c hc) (date_of d hd) earlier,
  day_number-same c.year c.month c.day hc.3,
  day_number-same d.year d.month d.day hd.3,
)

-- ---- days, seconds of a day and microseconds of a second

abbrev joined : ℤ → ℕ → ℕ → ℤ
joined day second micros = (day *ℤ pos 86_400 +ℤ pos second -ℤ pos 0 *ℤ pos 60) *ℤ pos 1_000_000 +ℤ pos micros

not_later_day : (a b : ℤ) (s t m n : ℕ) → s ≤ 86_399 → t ≤ 86_399 → m ≤ 999_999 → n ≤ 999_999
    → joined a s m ≤ℤ joined b t n → b <ℤ a → ⊥
not_later_day a b s t m n hs ht hm hn below later = omega (arith, signed_arith)

second_rises : (a b : ℤ) (s t m n : ℕ) → s ≤ 86_399 → t ≤ 86_399 → m ≤ 999_999 → n ≤ 999_999
    → joined a s m ≤ℤ joined b t n → a ≡ b → s ≤ t
second_rises a b s t m n hs ht hm hn below same = omega (arith, signed_arith)

seconds_few : (c : Civil) → IsCivil c → second_of_day c ≤ 86_399
seconds_few c h = omega arith

-- ---- the key does not fall

-- where the date is earlier
less_year : (y m z n : ℕ) → m ≤ 12 → 1 ≤ n → y < z → y * 12 + m < z * 12 + n
less_year y m z n small some less = omega arith

less_day : (p q a b : ℕ) → a ≤ 31 → p < q → p * 32 + a < q * 32 + b
less_day p q a b small less = omega arith

less_hour : (p q a b : ℕ) → a ≤ 23 → p < q → p * 24 + a < q * 24 + b
less_hour p q a b small less = omega arith

-- a date by its parts
day_less : (c d : Civil) (hc : HasDate c) (hd : HasDate d) → IsEarlier (date_of c hc) (date_of d hd)
    → key Day c < key Day d
day_less c d hc hd (inl year) =
    let less : c.year < d.year = omega (arith, signed_arith, year) in
    let small : c.day ≤ 31 = omega (arith, hc.4, month_most c.year c.month) in
    less_day (key Month c) (key Month d) c.day d.day small (less_year c.year c.month d.year d.month hc.2 hd.1 less)
day_less c d hc hd (inr (year, inl month)) =
    let same : c.year ≡ d.year = omega (arith, signed_arith, year) in
    let small : c.day ≤ 31 = omega (arith, hc.4, month_most c.year c.month) in
    less_day (key Month c) (key Month d) c.day d.day small (omega (arith, same, month))
day_less c d hc hd (inr (year, inr day)) =
    let same : c.year ≡ d.year = omega (arith, signed_arith, year) in
    omega (arith, same, day.0, day.1)

month_rises : (c d : Civil) (hc : HasDate c) (hd : HasDate d) → IsEarlier (date_of c hc) (date_of d hd)
    → key Month c ≤ key Month d
month_rises c d hc hd (inl year) =
    let less : c.year < d.year = omega (arith, signed_arith, year) in
    omega (arith, less_year c.year c.month d.year d.month hc.2 hd.1 less)
month_rises c d hc hd (inr (year, inl month)) =
    let same : c.year ≡ d.year = omega (arith, signed_arith, year) in
    omega (arith, same, month)
month_rises c d hc hd (inr (year, inr day)) =
    let same : c.year ≡ d.year = omega (arith, signed_arith, year) in
    omega (arith, same, day.0)

earlier_key : (p : Period) (c d : Civil) (hc : IsCivil c) (hd : IsCivil d)
    → IsEarlier (date_of c hc.0) (date_of d hd.0) → key p c ≤ key p d
earlier_key Month c d hc hd e = month_rises c d hc.0 hd.0 e
earlier_key Day c d hc hd e = omega (arith, day_less c d hc.0 hd.0 e)
earlier_key Hour c d hc hd e =
    omega (arith, less_hour (key Day c) (key Day d) c.hour d.hour hc.1.0 (day_less c d hc.0 hd.0 e))

-- on one day
same_day_key : (p : Period) (c d : Civil) → c.year ≡ d.year → c.month ≡ d.month → c.day ≡ d.day → c.hour ≤ d.hour
    → key p c ≤ key p d
same_day_key Month c d year month day hour = omega (arith, year, month)
same_day_key Day c d year month day hour = omega (arith, year, month, day)
same_day_key Hour c d year month day hour = omega (arith, year, month, day, hour)

hour_rises : (c d : Civil) → IsCivil c → IsCivil d → second_of_day c ≤ second_of_day d → c.hour ≤ d.hour
hour_rises c d hc hd seconds = omega arith

pub key_rises : (p : Period) (c d : Civil) → IsCivil c → IsCivil d → instant_of c (pos 0) ≤ℤ instant_of d (pos 0)
    → key p c ≤ key p d
key_rises p c d hc hd below =
    let a = day_number c.year c.month c.day in
    let b = day_number d.year d.month d.day in
    let few = seconds_few c hc in
    let little = seconds_few d hd in
    elim (cases_date (date_of c hc.0) (date_of d hd.0)) [
      | inl earlier ↦ earlier_key p c d hc hd earlier
      | inr (inl later) ↦ absurd (not_later_day a b (second_of_day c) (second_of_day d) c.micros d.micros few little
          hc.1.3 hd.1.3 below (earlier_day d c hd.0 hc.0 later))
      | inr (inr same) ↦
          let year : c.year ≡ d.year = omega (arith, signed_arith, same.0) in
          let day : a ≡ b = rw (year, same.1, same.2) in
          same_day_key p c d year same.1 same.2 (hour_rises c d hc hd
          (second_rises a b (second_of_day c) (second_of_day d) c.micros d.micros few little hc.1.3 hd.1.3 below day))
    ]
