-- What goes so that the segments of a store fit in some room.
use Rattle.std.proofs.Common.{◌≡◌, ◌⊎◌, inl, inr, ℕ, ◌+◌, ◌*◌, ◌/◌, ◌%◌, ◌<◌, ◌≤◌, List, [], ◌∷◌, ◌++◌, Option, None, Some}
use Rattle.std.proofs.Common.{ℤ, pos, ◌+ℤ◌, ◌-ℤ◌, ◌*ℤ◌, ◌<ℤ◌, ◌≤ℤ◌, Bool, true, false, refl, sym, ap, subst, ◌∙◌, arith, length}
use Rattle.std.proofs.Common.{take}
use Rattle.std.specs.Prelude.{◌↔◌, ◌&&◌, ◌||◌, codes, if◌then◌else◌, nat_eq}
use Rattle.std.proofs.lemmas.Bool.{false≢true}
use Rattle.jiff_core.proofs.SignedLemmas.{signed_arith}
use Rattle.syslog_value.specs.Calendar.{day_number}
use Rattle.syslog_value.specs.Instants.{IsCivil, instant_of, second_of_day}
use Rattle.syslog_value.specs.declared.civil.Civil.{Civil}
use Rattle.syslog_value.proofs.DayNumbers.{month_most}
use Rattle.syslog_fields.specs.Canonical.{civil_text}
use Rattle.syslog_fields.specs.Time.{padded}
use Rattle.syslog_fields.proofs.Times.{two_shown}
use Rattle.archive_text.specs.Entries.{Entry}
use Rattle.archive_text.specs.Periods.{IsPeriodOf}
use Rattle.archive_text.specs.declared.period.Period.TheVariants.{Day}
use Rattle.archive_text.proofs.Names.{one_name}
use Rattle.store_reading.specs.Days.{IsDayBelow}
use Rattle.store_reading.specs.Order.{is_period_below}
use Rattle.store_reading.proofs.DayOrders.{day_order, day_total}
use Rattle.store_reading.proofs.NameOrders.{below_is, orders}
use Rattle.store_expiry.specs.Expired.{IsBefore}
use Rattle.store_expiry.specs.Room.{IsLeft, goes, kept_octets, midnight, octets_left, octets_of}
use Rattle.store_expiry.specs.declared.room.SegmentSize.{SegmentSize}

-- ---- sums

pub all_more : (ss : List SegmentSize) (s : SegmentSize) → octets_of (ss ++ s ∷ []) ≡ octets_of ss + s.octets
all_more [] s = omega arith
all_more (t ∷ ss) s = omega (arith, all_more ss s)

pub left_more : (undated : Bool) (first : List ℕ) (ss : List SegmentSize) (s : SegmentSize)
    → octets_left undated first (ss ++ s ∷ []) ≡ octets_left undated first ss + kept_octets undated first s
left_more undated first [] s = omega arith
left_more undated first (t ∷ ss) s = omega (arith, left_more undated first ss s)

-- ---- a later day leaves no more

less_kept : (g p q : Bool) (n : ℕ) → (q ≡ false → p ≡ false) → (if g && q then 0 else n) ≤ (if g && p then 0 else n)
less_kept false p q n off = omega arith
less_kept true p true n off = omega arith
less_kept true true false n off = absurd (false≢true (sym (off refl)))
less_kept true false false n off = omega arith

kept_falls : (undated : Bool) (d e : List ℕ) (day : Option (List ℕ)) (n : ℕ) → is_period_below e d ≡ false
    → (if goes undated e day then 0 else n) ≤ (if goes undated d day then 0 else n)
kept_falls undated d e None n late = omega arith
kept_falls undated d e (Some day) n late =
    less_kept (undated || nat_eq (length day) 10) (is_period_below day d) (is_period_below day e) n
    (λ off. (orders (λ (x : List ℕ). x)).chain day e d off late)

left_falls : (undated : Bool) (d e : List ℕ) (ss : List SegmentSize) → is_period_below e d ≡ false
    → octets_left undated e ss ≤ octets_left undated d ss
left_falls undated d e [] late = omega arith
left_falls undated d e (s ∷ ss) late =
    omega (arith, kept_falls undated d e s.day s.octets late, left_falls undated d e ss late)

not_true : (b : Bool) → (b ≡ true → ⊥) → b ≡ false
not_true true none = absurd (none refl)
not_true false none = refl

abbrev at : ℤ → Entry
at i = record { instant = Some i; octets = [] }

later_day : (n m : ℕ) (d e : List ℕ) → n ≤ m → IsPeriodOf Day (Some (midnight n)) d → IsPeriodOf Day (Some (midnight m)) e
    → is_period_below e d ≡ false
later_day n m d e up of further =
    not_true (is_period_below e d) (λ below.
    let less : midnight m <ℤ midnight n = day_order e d (at (midnight m)) (at (midnight n)) further of
    ((below_is e d).0 below) in
    omega (arith, signed_arith, up, less))

pub falls : (undated : Bool) (ss : List SegmentSize) (n m a b : ℕ) → n ≤ m → IsLeft undated ss (midnight n) a
    → IsLeft undated ss (midnight m) b → b ≤ a
falls undated ss n m a b up before after =
    omega (
      arith,
      before.left_is,
      after.left_is,
      left_falls undated before.day after.day ss
          (later_day n m before.day after.day up before.of after.of),
    )

-- ---- the midnight of a day is its first instant

year_shown : (y z : ℕ) → y ≤ 9999 → z ≤ 9999 → 48 + y / 10 / 10 / 10 % 10 ≡ 48 + z / 10 / 10 / 10 % 10
    → 48 + y / 10 / 10 % 10 ≡ 48 + z / 10 / 10 % 10 → 48 + y / 10 % 10 ≡ 48 + z / 10 % 10
    → 48 + y % 10 ≡ 48 + z % 10 → y ≡ z
year_shown y z hy hz a b c d = omega arith

abbrev date_text : Civil → List ℕ
date_text c = padded 4 c.year ++ 45 ∷ padded 2 c.month ++ 45 ∷ padded 2 c.day

record IsDated (i : ℤ) (day : List ℕ) : Type 0 where
  civil : Civil
  exists : IsCivil civil
  names : instant_of civil (pos 0) ≡ i
  is : day ≡ date_text civil

first_ten : (c : Civil) → take 10 (civil_text c) ≡ date_text c
unfolding civil_text
first_ten c = refl

dated : (i : ℤ) (day : List ℕ) → IsPeriodOf Day (Some i) day → IsDated i day
dated i day (time, (c, exists, names, text), first) =
    record { civil = c; exists = exists; names = names; is = first ∙ ap (take 10) text ∙ first_ten c }

pub date_length : (i : ℤ) (day : List ℕ) → IsPeriodOf Day (Some i) day → length day ≡ 10
date_length i day of = ap length (dated i day of).is

day_most : (c : Civil) → IsCivil c → c.day ≤ 99
day_most c h = omega (arith, h.0.4, month_most c.year c.month)

same_number : (c d : Civil) → IsCivil c → IsCivil d → date_text c ≡ date_text d
    → day_number c.year c.month c.day ≡ day_number d.year d.month d.day
same_number c d hc hd e =
    let y1 : 48 + c.year / 10 / 10 / 10 % 10 ≡ 48 + d.year / 10 / 10 / 10 % 10 = cc in
    let y2 : 48 + c.year / 10 / 10 % 10 ≡ 48 + d.year / 10 / 10 % 10 = cc in
    let y3 : 48 + c.year / 10 % 10 ≡ 48 + d.year / 10 % 10 = cc in
    let y4 : 48 + c.year % 10 ≡ 48 + d.year % 10 = cc in
    let m1 : 48 + c.month / 10 % 10 ≡ 48 + d.month / 10 % 10 = cc in
    let m2 : 48 + c.month % 10 ≡ 48 + d.month % 10 = cc in
    let d1 : 48 + c.day / 10 % 10 ≡ 48 + d.day / 10 % 10 = cc in
    let d2 : 48 + c.day % 10 ≡ 48 + d.day % 10 = cc in
    let year : c.year ≡ d.year = year_shown c.year d.year hc.0.0 hd.0.0 y1 y2 y3 y4 in
    let month : c.month ≡ d.month = two_shown c.month d.month (omega (arith, hc.0.2)) (omega (arith, hd.0.2)) m1 m2 in
    let day : c.day ≡ d.day = two_shown c.day d.day (day_most c hc) (day_most d hd) d1 d2 in
    rw (year, month, day) refl

seconds_few : (c : Civil) → IsCivil c → second_of_day c ≤ 86_399
seconds_few c h = omega arith

abbrev joined : ℤ → ℕ → ℕ → ℤ
joined day second micros = (day *ℤ pos 86_400 +ℤ pos second -ℤ pos 0 *ℤ pos 60) *ℤ pos 1_000_000 +ℤ pos micros

first_of_day : (a b : ℤ) (n s t m u : ℕ) → a ≡ b → t ≤ 86_399 → u ≤ 999_999 → joined b t u ≡ midnight n
    → midnight n ≤ℤ joined a s m
first_of_day a b n s t m u same small few is = omega (arith, signed_arith)

midnight_first : (i : ℤ) (n : ℕ) (day : List ℕ) → IsPeriodOf Day (Some i) day → IsPeriodOf Day (Some (midnight n)) day
    → midnight n ≤ℤ i
midnight_first i n day of first =
    let a = dated i day of in
    let b = dated (midnight n) day first in
    subst (λ (z : ℤ). midnight n ≤ℤ z) a.names
    (first_of_day (day_number a.civil.year a.civil.month a.civil.day) (day_number b.civil.year b.civil.month b.civil.day) n
    (second_of_day a.civil) (second_of_day b.civil) a.civil.micros b.civil.micros
    (same_number a.civil b.civil a.exists b.exists (sym a.is ∙ b.is)) (seconds_few b.civil b.exists) b.exists.1.3 b.names)

-- ---- what goes is expired

or_true : (u b : Bool) → b ≡ true → (u || b) ≡ true
or_true true b on = refl
or_true false b on = on

and_is : (g p : Bool) → g ≡ true → (g && p ≡ true) ↔ (p ≡ true)
and_is true p on = (λ h. h, λ h. h)
and_is false p on = absurd (false≢true on)

undated_goes : (u p : Bool) → p ≡ true → ((u || false) && p ≡ true) ↔ (u ≡ true)
undated_goes true p on = (λ h. refl, λ h. on)
undated_goes false p on = (λ h. h, λ h. h)

undated_gone : (u : Bool) (n : ℕ) (first : List ℕ) → length first ≡ 10
    → (goes u first (Some (codes "undated")) ≡ true) ↔ (u ≡ true)
undated_gone u n first long =
    undated_goes u (is_period_below (codes "undated") first)
    ((below_is (codes "undated") first).1 (inl (omega (arith, long))))

day_gone : (u : Bool) (n : ℕ) (first day : List ℕ) (i : ℤ) → IsPeriodOf Day (Some (midnight n)) first
    → IsPeriodOf Day (Some i) day → (is_period_below day first ≡ true) ↔ (i <ℤ midnight n)
day_gone u n first day i begins of = (
  λ below. day_order day first (at i) (at (midnight n)) of begins ((below_is day first).0 below),
  λ less. (below_is day first).1 (elim (day_total day first) [
    | inl below ↦ below
    | inr (inl same) ↦
        let from : midnight n ≤ℤ i = midnight_first i n day of
        (subst (IsPeriodOf Day (Some (midnight n))) (sym same) begins) in
        absurd (omega (arith, signed_arith, from, less))
    | inr (inr above) ↦
        let later : midnight n <ℤ i = day_order first day (at (midnight n)) (at i) begins of above in
        absurd (omega (arith, signed_arith, later, less))
  ]),
)

pub gone_is : (u : Bool) (n : ℕ) (first day : List ℕ) (i : Option ℤ) → IsPeriodOf Day (Some (midnight n)) first
    → IsPeriodOf Day i day → (goes u first (Some day) ≡ true) ↔ IsBefore (midnight n) u i
gone_is u n first day None begins of =
    subst (λ (d : List ℕ). (goes u first (Some d) ≡ true) ↔ (u ≡ true)) (sym of)
    (undated_gone u n first (date_length (midnight n) first begins))
gone_is u n first day (Some i) begins of =
    let long : nat_eq (length day) 10 ≡ true = ap (λ (k : ℕ). nat_eq k 10) (date_length i day of) in
    let gone = and_is (u || nat_eq (length day) 10) (is_period_below day first)
    (or_true u (nat_eq (length day) 10) long) in
    let is = day_gone u n first day i begins of in
    (λ h. is.0 (gone.0 h), λ less. gone.1 (is.1 less))
