-- What periods are called: entries of one period follow one another.
use Rattle.std.proofs.Common.{◌≡◌, ℕ, ◌+◌, ◌/◌, ◌%◌, ◌≤◌, List, [], ◌∷◌, ◌++◌, Option, None, Some, take}
use Rattle.std.proofs.Common.{ℤ, pos, ◌<ℤ◌, ◌≤ℤ◌, ◌∙◌, refl, sym, ap, arith}
use Rattle.std.specs.Prelude.{codes}
use Rattle.std.proofs.lemmas.Int.{by_lt_z}
use Rattle.jiff_core.proofs.SignedLemmas.{signed_arith}
use Rattle.syslog_value.specs.Instants.{IsCivil, instant_of}
use Rattle.syslog_value.specs.declared.civil.Civil.{Civil}
use Rattle.syslog_value.proofs.CivilTimes.{civil-injective}
use Rattle.syslog_fields.specs.Canonical.{civil_text}
use Rattle.syslog_fields.specs.Time.{padded}
use Rattle.archive_text.specs.Entries.{InstantBelow}
use Rattle.archive_text.specs.Periods.{IsPeriodOf, name_length}
use Rattle.archive_text.specs.declared.period.Period.{Period}
use Rattle.archive_text.specs.declared.period.Period.TheVariants.{Month, Day, Hour}
use Rattle.archive_text.proofs.Civils.{key, key_rises}
use Rattle.syslog_fields.proofs.Times.{two_shown}
use Rattle.syslog_value.proofs.DayNumbers.{month_most}

not_below : (i j : ℤ) → ¬ (j <ℤ i) → i ≤ℤ j
not_below i j h = by_lt_z j i (λ less. absurd (h less)) (λ from. from)

-- YYYY-MM, YYYY-MM-DD or YYYY-MM-DDThh
abbrev name_of : Period → Civil → List ℕ
name_of Month c = padded 4 c.year ++ 45 ∷ padded 2 c.month
name_of Day c = padded 4 c.year ++ 45 ∷ padded 2 c.month ++ 45 ∷ padded 2 c.day
name_of Hour c = padded 4 c.year ++ 45 ∷ padded 2 c.month ++ 45 ∷ padded 2 c.day ++ 84 ∷ padded 2 c.hour

first_octets : (p : Period) (c : Civil) → take (name_length p) (civil_text c) ≡ name_of p c
unfolding civil_text
first_octets Month c = refl
first_octets Day c = refl
first_octets Hour c = refl

-- a name, and the civil time whose first octets it is
record IsNamed (p : Period) (i : ℤ) (name : List ℕ) : Type 0 where
  civil : Civil
  exists : IsCivil civil
  names : instant_of civil (pos 0) ≡ i
  is : name ≡ name_of p civil

named : (p : Period) (i : ℤ) (name : List ℕ) → IsPeriodOf p (Some i) name → IsNamed p i name
named p i name (time, (c, exists, names, text), first) = record {
  civil = c;
  exists = exists;
  names = names;
  is = first ∙ ap (take (name_length p)) text ∙ first_octets p c;
}

-- ---- an instant lies in one period

pub one_name : (p : Period) (i : Option ℤ) (a b : List ℕ) → IsPeriodOf p i a → IsPeriodOf p i b → a ≡ b
one_name p None a b h k = h ∙ sym k
one_name p (Some i) a b h k =
    let m = named p i a h in
    let n = named p i b k in
    m.is ∙ ap (name_of p) (civil-injective m.civil n.civil m.exists n.exists (m.names ∙ sym n.names)) ∙ sym n.is

-- ---- a name and the fields that it shows

year_shown : (y z : ℕ) → y ≤ 9999 → z ≤ 9999 → 48 + y / 10 / 10 / 10 % 10 ≡ 48 + z / 10 / 10 / 10 % 10
    → 48 + y / 10 / 10 % 10 ≡ 48 + z / 10 / 10 % 10 → 48 + y / 10 % 10 ≡ 48 + z / 10 % 10
    → 48 + y % 10 ≡ 48 + z % 10 → y ≡ z
year_shown y z hy hz a b c d = omega arith

month_shown : (c d : Civil) → IsCivil c → IsCivil d → name_of Month c ≡ name_of Month d
    → (c.year ≡ d.year) × (c.month ≡ d.month)
month_shown c d hc hd e =
    let y1 : 48 + c.year / 10 / 10 / 10 % 10 ≡ 48 + d.year / 10 / 10 / 10 % 10 = cc in
    let y2 : 48 + c.year / 10 / 10 % 10 ≡ 48 + d.year / 10 / 10 % 10 = cc in
    let y3 : 48 + c.year / 10 % 10 ≡ 48 + d.year / 10 % 10 = cc in
    let y4 : 48 + c.year % 10 ≡ 48 + d.year % 10 = cc in
    let m1 : 48 + c.month / 10 % 10 ≡ 48 + d.month / 10 % 10 = cc in
    let m2 : 48 + c.month % 10 ≡ 48 + d.month % 10 = cc in (
      year_shown c.year d.year hc.0.0 hd.0.0 y1 y2 y3 y4,
      two_shown c.month d.month (omega (arith, hc.0.2)) (omega (arith, hd.0.2)) m1 m2,
    )

-- the first octets of a longer name
day_begins : (c d : Civil) → name_of Day c ≡ name_of Day d → name_of Month c ≡ name_of Month d
day_begins c d e = ap (take 7) e

hour_begins : (c d : Civil) → name_of Hour c ≡ name_of Hour d → name_of Day c ≡ name_of Day d
hour_begins c d e = ap (take 10) e

day_most : (c : Civil) → IsCivil c → c.day ≤ 99
day_most c h = omega (arith, h.0.4, month_most c.year c.month)

day_shown : (c d : Civil) → IsCivil c → IsCivil d → name_of Day c ≡ name_of Day d → c.day ≡ d.day
day_shown c d hc hd e =
    let d1 : 48 + c.day / 10 % 10 ≡ 48 + d.day / 10 % 10 = cc in
    let d2 : 48 + c.day % 10 ≡ 48 + d.day % 10 = cc in
    two_shown c.day d.day (day_most c hc) (day_most d hd) d1 d2

hour_shown : (c d : Civil) → IsCivil c → IsCivil d → name_of Hour c ≡ name_of Hour d → c.hour ≡ d.hour
hour_shown c d hc hd e =
    let h1 : 48 + c.hour / 10 % 10 ≡ 48 + d.hour / 10 % 10 = cc in
    let h2 : 48 + c.hour % 10 ≡ 48 + d.hour % 10 = cc in
    two_shown c.hour d.hour (omega (arith, hc.1.0)) (omega (arith, hd.1.0)) h1 h2

same_key : (p : Period) (c d : Civil) → IsCivil c → IsCivil d → name_of p c ≡ name_of p d → key p c ≡ key p d
same_key Month c d hc hd e = let m = month_shown c d hc hd e in omega (arith, m.0, m.1)
same_key Day c d hc hd e =
    let m = month_shown c d hc hd (day_begins c d e) in
    omega (arith, m.0, m.1, day_shown c d hc hd e)
same_key Hour c d hc hd e =
    let f = hour_begins c d e in
    let m = month_shown c d hc hd (day_begins c d f) in
    omega (arith, m.0, m.1, day_shown c d hc hd f, hour_shown c d hc hd e)

-- the fields that a key is made of
record AreSameFields (c d : Civil) : Type 0 where
  year : c.year ≡ d.year
  month : c.month ≡ d.month

month_of_key : (c d : Civil) → IsCivil c → IsCivil d → key Month c ≡ key Month d → AreSameFields c d
month_of_key c d hc hd e =
    let year : c.year ≡ d.year = omega (arith, e, hc.0.1, hc.0.2, hd.0.1, hd.0.2) in
    record { year = year; month = omega (arith, e, year) }

same_name : (p : Period) (c d : Civil) → IsCivil c → IsCivil d → key p c ≡ key p d → name_of p c ≡ name_of p d
same_name Month c d hc hd e = let m = month_of_key c d hc hd e in rw (m.year, m.month) refl
same_name Day c d hc hd e =
    let small : c.day ≤ 31 = omega (arith, hc.0.4, month_most c.year c.month) in
    let few : d.day ≤ 31 = omega (arith, hd.0.4, month_most d.year d.month) in
    let month : key Month c ≡ key Month d = omega arith in
    let day : c.day ≡ d.day = omega arith in
    let m = month_of_key c d hc hd month in rw (m.year, m.month, day) refl
same_name Hour c d hc hd e =
    let small : c.day ≤ 31 = omega (arith, hc.0.4, month_most c.year c.month) in
    let few : d.day ≤ 31 = omega (arith, hd.0.4, month_most d.year d.month) in
    let date : key Day c ≡ key Day d = omega (arith, hc.1.0, hd.1.0) in
    let hour : c.hour ≡ d.hour = omega arith in
    let month : key Month c ≡ key Month d = omega arith in
    let day : c.day ≡ d.day = omega arith in
    let m = month_of_key c d hc hd month in rw (m.year, m.month, day, hour) refl

-- ---- what lies between two instants of one period lies in it

dated_between : (p : Period) (i j k : ℤ) (a b : List ℕ) → i ≤ℤ j → j ≤ℤ k → IsPeriodOf p (Some i) a
    → IsPeriodOf p (Some k) a → IsPeriodOf p (Some j) b → b ≡ a
dated_between p i j k a b low high first last mid =
    let f = named p i a first in
    let l = named p k a last in
    let m = named p j b mid in
    let rises : key p f.civil ≤ key p m.civil =
    key_rises p f.civil m.civil f.exists m.exists (omega (arith, signed_arith, f.names, m.names)) in
    let further : key p m.civil ≤ key p l.civil =
    key_rises p m.civil l.civil m.exists l.exists (omega (arith, signed_arith, m.names, l.names)) in
    let around : key p f.civil ≡ key p l.civil = same_key p f.civil l.civil f.exists l.exists (sym f.is ∙ l.is) in
    let same : key p m.civil ≡ key p f.civil = omega (arith, rises, further, around) in
    m.is ∙ same_name p m.civil f.civil m.exists f.exists same ∙ sym f.is

-- the name of an instant begins with a digit
abbrev first_of : List ℕ → ℕ
first_of [] = 0
first_of (x ∷ xs) = x

no_letter : (y : ℕ) → 48 + y / 10 / 10 / 10 % 10 ≡ 117 → ⊥
no_letter y e = omega arith

first_digit : (p : Period) (c : Civil) → name_of p c ≡ codes "undated" → ⊥
first_digit Month c e = no_letter c.year (ap first_of e)
first_digit Day c e = no_letter c.year (ap first_of e)
first_digit Hour c e = no_letter c.year (ap first_of e)

pub between : (p : Period) (i j k : Option ℤ) (a b : List ℕ) → ¬ (InstantBelow j i) → ¬ (InstantBelow k j)
    → IsPeriodOf p i a → IsPeriodOf p k a → IsPeriodOf p j b → b ≡ a
between p None None k a b low high first last mid = mid ∙ sym first
between p (Some i) None k a b low high first last mid = absurd (low tt)
between p i (Some j) None a b low high first last mid = absurd (high tt)
between p None (Some j) (Some k) a b low high first last mid =
    let l = named p k a last in absurd (first_digit p l.civil (sym l.is ∙ first))
between p (Some i) (Some j) (Some k) a b low high first last mid =
    dated_between p i j k a b (not_below i j low) (not_below j k high) first last mid
