-- Octets within LEAST and MOST, with seconds behind them, are a date and the time of a day.
use Rattle.std.proofs.Common.{◌≡◌, ℕ, suc, ◌+◌, ◌*◌, ◌≤◌, ◌<◌, List, [], ◌∷◌, length, drop, get_or, refl, sym}
use Rattle.std.proofs.Common.{ap, subst, ◌∙◌, arith}
use Rattle.std.proofs.Math.Seq.{drop-cons}
use Rattle.octet_language.specs.Digits.{IsDigit}
use Rattle.octet_language.specs.Language.{Only}
use Rattle.octet_language.specs.Reading.{Follows}
use Rattle.syslog_value.specs.Calendar.{month_length}
use Rattle.syslog_fields.specs.Dates.{Clock, Date, DateClock}
use Rattle.syslog_fields.specs.Lanes.{LiesBetween}
use Rattle.syslog_fields.specs.Time.{Two, YearText}
use Rattle.syslog_fields.specs.declared.lanes.TheConstants.{LEAST, MOST}
use Rattle.syslog_fields.proofs.Separated.{both_read}
use Rattle.syslog_fields.proofs.Times.{clock_read, date_read, number, two_read, year_read}

octet_at : (x : ℕ) (o : List ℕ) (i : ℕ) → i < length o → get_or o i 0 ≡ x
    → Follows (Only (x ∷ [])) (drop i o) (drop (suc i) o)
octet_at x o i room e =
    (x ∷ [], drop-cons o i 0 room ∙ ap (λ (k : ℕ). k ∷ drop (suc i) o) e, refl)

two_at : (low high n : ℕ) (o : List ℕ) (i : ℕ) → high ≤ 99 → suc i < length o
    → n ≡ number (get_or o i 0) (get_or o (suc i) 0) → 48 ≤ get_or o i 0 → IsDigit (get_or o (suc i) 0)
    → low ≤ n → n ≤ high → Follows (Two low high n) (drop i o) (drop (suc (suc i)) o)
two_at low high n o i small room e tens units l h =
    subst (λ (k : ℕ). Follows (Two low high k) (drop i o) (drop (suc (suc i)) o)) (sym e)
    (two_read low high (drop i o) (get_or o i 0) (drop (suc i) o) (get_or o (suc i) 0) (drop (suc (suc i)) o) small
    (drop-cons o i 0 (omega (arith, room))) (drop-cons o (suc i) 0 room) tens units
    (subst (λ (k : ℕ). low ≤ k) e l) (subst (λ (k : ℕ). k ≤ high) e h))

-- what the sixteen octets up to the minutes are
record IsShaped (o : List ℕ) : Type 0 where
  pub year : IsDigit (get_or o 0 0) × IsDigit (get_or o 1 0) × IsDigit (get_or o 2 0) × IsDigit (get_or o 3 0)
  pub dash : get_or o 4 0 ≡ 45
  pub month : IsDigit (get_or o 5 0) × IsDigit (get_or o 6 0)
  pub dash-2 : get_or o 7 0 ≡ 45
  pub day : IsDigit (get_or o 8 0) × IsDigit (get_or o 9 0)
  pub letter : get_or o 10 0 ≡ 84
  pub hour : IsDigit (get_or o 11 0) × IsDigit (get_or o 12 0)
  pub colon : get_or o 13 0 ≡ 58
  pub minute : IsDigit (get_or o 14 0) × IsDigit (get_or o 15 0) × (get_or o 14 0 ≤ 53)

digit_by : (x most : ℕ) → most ≤ 57 → 48 ≤ x → x ≤ most → IsDigit x
digit_by x most h l m = (l, omega arith)

same_by : (x y : ℕ) → y ≤ x → x ≤ y → x ≡ y
same_by x y l m = omega arith

shaped : (o : List ℕ) → LiesBetween LEAST MOST o → IsShaped o
shaped o lies =
    let b : (k : ℕ) → k < 16 → (get_or LEAST k 0 ≤ get_or o k 0) × (get_or o k 0 ≤ get_or MOST k 0) = lies in
    let b0 = b 0 (omega arith) in
    let b1 = b 1 (omega arith) in
    let b2 = b 2 (omega arith) in
    let b3 = b 3 (omega arith) in
    let b4 = b 4 (omega arith) in
    let b5 = b 5 (omega arith) in
    let b6 = b 6 (omega arith) in
    let b7 = b 7 (omega arith) in
    let b8 = b 8 (omega arith) in
    let b9 = b 9 (omega arith) in
    let b10 = b 10 (omega arith) in
    let b11 = b 11 (omega arith) in
    let b12 = b 12 (omega arith) in
    let b13 = b 13 (omega arith) in
    let b14 = b 14 (omega arith) in
    let b15 = b 15 (omega arith) in
    record {
      year = (
        digit_by (get_or o 0 0) 57 (omega arith) b0.0 b0.1,
        digit_by (get_or o 1 0) 57 (omega arith) b1.0 b1.1,
        digit_by (get_or o 2 0) 57 (omega arith) b2.0 b2.1,
        digit_by (get_or o 3 0) 57 (omega arith) b3.0 b3.1,
      );
      dash = same_by (get_or o 4 0) 45 b4.0 b4.1;
      month = (
        digit_by (get_or o 5 0) 49 (omega arith) b5.0 b5.1,
        digit_by (get_or o 6 0) 57 (omega arith) b6.0 b6.1,
      );
      dash-2 = same_by (get_or o 7 0) 45 b7.0 b7.1;
      day = (
        digit_by (get_or o 8 0) 51 (omega arith) b8.0 b8.1,
        digit_by (get_or o 9 0) 57 (omega arith) b9.0 b9.1,
      );
      letter = same_by (get_or o 10 0) 84 b10.0 b10.1;
      hour = (
        digit_by (get_or o 11 0) 50 (omega arith) b11.0 b11.1,
        digit_by (get_or o 12 0) 57 (omega arith) b12.0 b12.1,
      );
      colon = same_by (get_or o 13 0) 58 b13.0 b13.1;
      minute = (
        digit_by (get_or o 14 0) 53 (omega arith) b14.0 b14.1,
        digit_by (get_or o 15 0) 57 (omega arith) b15.0 b15.1,
        b14.1,
      );
    }

date_at : (o : List ℕ) (c y m d : ℕ) → 19 ≤ length o → IsShaped o
    → c ≡ number (get_or o 0 0) (get_or o 1 0) → y ≡ number (get_or o 2 0) (get_or o 3 0)
    → m ≡ number (get_or o 5 0) (get_or o 6 0) → d ≡ number (get_or o 8 0) (get_or o 9 0) → 1 ≤ m → m ≤ 12 → 1 ≤ d
    → d ≤ month_length (100 * c + y) m → month_length (100 * c + y) m ≤ 31
    → Follows (Date (100 * c + y, m, d)) o (drop 10 o)
date_at o c y m d room s ce ye me de ml mh dl dh last =
    let y1 = s.year.0 in
    let y2 = s.year.1 in
    let y3 = s.year.2 in
    let y4 = s.year.3 in
    date_read o (drop 7 o) (drop 8 o) (drop 10 o) (100 * c + y) m d
    (both_read (YearText (100 * c + y)) (Two 1 12 m) 45 o (drop 4 o) (drop 5 o) (drop 7 o)
    (year_read o (drop 2 o) (drop 4 o) c y
    (two_at 0 99 c o 0 (omega arith) (omega (arith, room)) ce y1.0 y2 (omega arith) (omega (arith, ce, y1.1, y2.1)))
    (two_at 0 99 y o 2 (omega arith) (omega (arith, room)) ye y3.0 y4 (omega arith) (omega (arith, ye, y3.1, y4.1))))
    (octet_at 45 o 4 (omega (arith, room)) s.dash)
    (two_at 1 12 m o 5 (omega arith) (omega (arith, room)) me s.month.0.0 s.month.1 ml mh))
    (octet_at 45 o 7 (omega (arith, room)) s.dash-2)
    (two_at 1 (month_length (100 * c + y) m) d o 8 (omega (arith, last)) (omega (arith, room)) de s.day.0.0 s.day.1 dl dh)

clock_at : (o : List ℕ) (h i n : ℕ) → 19 ≤ length o → IsShaped o → get_or o 16 0 ≡ 58 → 48 ≤ get_or o 17 0
    → get_or o 17 0 ≤ 53 → IsDigit (get_or o 18 0) → h ≡ number (get_or o 11 0) (get_or o 12 0)
    → i ≡ number (get_or o 14 0) (get_or o 15 0) → n ≡ number (get_or o 17 0) (get_or o 18 0) → h ≤ 23
    → Follows (Clock (h, i, n)) (drop 11 o) (drop 19 o)
clock_at o h i n room s colon low high units he ie ne hh =
    clock_read (drop 11 o) (drop 16 o) (drop 17 o) (drop 19 o) h i n
    (both_read (Two 0 23 h) (Two 0 59 i) 58 (drop 11 o) (drop 13 o) (drop 14 o) (drop 16 o)
    (two_at 0 23 h o 11 (omega arith) (omega (arith, room)) he s.hour.0.0 s.hour.1 (omega arith) hh)
    (octet_at 58 o 13 (omega (arith, room)) s.colon)
    (two_at 0 59 i o 14 (omega arith) (omega (arith, room)) ie s.minute.0.0 s.minute.1 (omega arith)
    (omega (arith, ie, s.minute.2, s.minute.1.1))))
    (octet_at 58 o 16 (omega (arith, room)) colon)
    (two_at 0 59 n o 17 (omega arith) (omega (arith, room)) ne low units (omega arith) (omega (arith, ne, high, units.1)))

pub date_clock_at : (o : List ℕ) (c y m d h i n : ℕ) → 19 ≤ length o → LiesBetween LEAST MOST o
    → get_or o 16 0 ≡ 58 → 48 ≤ get_or o 17 0 → get_or o 17 0 ≤ 53 → IsDigit (get_or o 18 0)
    → c ≡ number (get_or o 0 0) (get_or o 1 0) → y ≡ number (get_or o 2 0) (get_or o 3 0)
    → m ≡ number (get_or o 5 0) (get_or o 6 0) → d ≡ number (get_or o 8 0) (get_or o 9 0)
    → h ≡ number (get_or o 11 0) (get_or o 12 0) → i ≡ number (get_or o 14 0) (get_or o 15 0)
    → n ≡ number (get_or o 17 0) (get_or o 18 0) → 1 ≤ m → m ≤ 12 → 1 ≤ d → d ≤ month_length (100 * c + y) m
    → month_length (100 * c + y) m ≤ 31 → h ≤ 23
    → DateClock ((100 * c + y, m, d), (h, i, n)) o (drop 19 o)
date_clock_at o c y m d h i n room lies colon low high units ce ye me de he ie ne ml mh dl dh last hh =
    let s = shaped o lies in (
      drop 10 o,
      drop 11 o,
      date_at o c y m d room s ce ye me de ml mh dl dh last,
      octet_at 84 o 10 (omega (arith, room)) s.letter,
      clock_at o h i n room s colon low high units he ie ne hh,
    )
