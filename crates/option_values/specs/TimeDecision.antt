-- Whether a text is a timestamp is decided: each of its numbers has finitely many values.
use Rattle.std.proofs.Common.{◌≡◌, ℕ, zero, suc, ◌+◌, ◌-◌, ◌*◌, ◌≤◌, List, [], ◌∷◌, ◌++◌, length, Bool, true, false}
use Rattle.std.proofs.Common.{refl, sym, ap, subst, inl, inr, ◌⊎◌, arith, true≢false}
use Rattle.std.specs.Prelude.{replicate, ℤ, pos, neg_ℤ}
use Rattle.std.specs.Bool.{Decides}
use Rattle.std.specs.List.{AllByRecursion}
use Rattle.std.specs.Str.{bytes_eq}
use Rattle.std.proofs.lemmas.Bool.{cases_eq, cases_lt}
use Rattle.std.proofs.lemmas.Bool.Decides.{nat_tests}
use Rattle.std.proofs.lemmas.Slice.Eq.{bytes_eq-Decides}
use Rattle.octet_language.specs.Digits.{IsDigit, read_on}
use Rattle.octet_language.specs.Language.{Language, Only, ◌⋅◌, AnyOf}
use Rattle.octet_language.proofs.Lists.{heads, tails}
use Rattle.syslog_value.specs.Calendar.{month_length}
use Rattle.syslog_fields.specs.Time.{CivilTime, ClockText, DateText, Decimals, FractionText, OffsetText, TimeText}
use Rattle.syslog_fields.specs.Time.{Two, YearText, ZoneText, padded}
use Rattle.syslog_reading.proofs.Viewing.{time_exists}

-- it holds, or it does not
abbrev pub Decided : Type 0 → Type 0
Decided A = A ⊎ ¬ A

pub mapped : {A B : Type 0} → (A → B) → (B → A) → Decided A → Decided B
mapped f g (inl a) = inl (f a)
mapped f g (inr n) = inr (λ b. n (g b))

pub both : {A B : Type 0} → Decided A → Decided B → Decided (A × B)
both (inl a) (inl b) = inl (a, b)
both (inl a) (inr n) = inr (λ h. n h.1)
both (inr n) d = inr (λ h. n h.0)

either : {A B : Type 0} → Decided A → Decided B → Decided (A ⊎ B)
either (inl a) d = inl (inl a)
either (inr n) (inl b) = inl (inr b)
either (inr n) (inr m) = inr (λ h. elim h [ inl a ↦ n a | inr b ↦ m b ])

pub tested : {P : Type 0} (t : Bool) → Decides t P → Decided P
tested true d = inl (d.0 refl)
tested false d = inr (λ p. true≢false (sym (d.1 p)))

only : (text b : List ℕ) → Decided (Only text b)
only text b = tested (bytes_eq b text) (bytes_eq-Decides b text)

pub at_most : (a b : ℕ) → Decided (a ≤ b)
at_most a b = elim (cases_lt b a) [ inl l ↦ inr (λ h. omega (arith, l, h)) | inr h ↦ inl h ]

-- a number up to n has the property
within : (P : ℕ → Type 0) → ((k : ℕ) → Decided (P k)) → (n : ℕ) → Decided ((k : ℕ) × (k ≤ n) × P k)
within P d zero = mapped (λ p. (0, omega arith, p)) (λ h. let e : h.0 ≡ 0 = omega (arith, h.1) in subst P e h.2) (d 0)
within P d (suc n) = elim (d (suc n)) [
  | inl p ↦ inl (suc n, omega arith, p)
  | inr m ↦ mapped (λ h. (h.0, omega (arith, h.1), h.2)) (λ h. (h.0, lower P n m h.0 h.1 h.2, h.2)) (within P d n)
]
  where
    lower : (P : ℕ → Type 0) (n : ℕ) → ¬ (P (suc n)) → (k : ℕ) → k ≤ suc n → P k → k ≤ n
    lower P n m k h p = elim (cases_lt n k) [
      | inl l ↦ let e : k ≡ suc n = omega (arith, l, h) in absurd (m (subst P e p))
      | inr s ↦ s
    ]

-- ---- one text after the other

emptied : (A B : Language) (x y : List ℕ) → [] ≡ x ++ y → A x → B y → A [] × B []
emptied A B [] y e p q = (p, subst B (sym e) q)
emptied A B (c ∷ x) y e p q = absurd cc

behind : (A B : Language) (c : ℕ) (s : List ℕ) → ¬ (A [] × B (c ∷ s)) → (A ⋅ B) (c ∷ s)
    → ((λ t. A (c ∷ t)) ⋅ B) s
behind A B c s n ([], y, e, p, q) = absurd (n (p, subst B (sym e) q))
behind A B c s n (x ∷ xs, y, e, p, q) = (
  xs,
  y,
  tails c x s (xs ++ y) e,
  subst (λ (k : ℕ). A (k ∷ xs)) (sym (heads c x s (xs ++ y) e)) p,
  q,
)

ahead : (A B : Language) (c : ℕ) (s : List ℕ) → ((λ t. A (c ∷ t)) ⋅ B) s → (A ⋅ B) (c ∷ s)
ahead A B c s (x, y, e, p, q) = (c ∷ x, y, ap (λ (t : List ℕ). c ∷ t) e, p, q)

joined : (b : List ℕ) (A B : Language) → ((s : List ℕ) → Decided (A s)) → ((s : List ℕ) → Decided (B s))
    → Decided ((A ⋅ B) b)
joined [] A B a d = mapped (λ h. ([], [], refl, h.0, h.1)) (λ h. emptied A B h.0 h.1 h.2 h.3 h.4) (both (a []) (d []))
joined (c ∷ s) A B a d = elim (both (a []) (d (c ∷ s))) [
  | inl h ↦ inl ([], c ∷ s, refl, h.0, h.1)
  | inr n ↦ mapped (λ h. ahead A B c s h) (λ h. behind A B c s n h)
      (joined s (λ t. A (c ∷ t)) B (λ t. a (c ∷ t)) d)
]

-- ---- the parts of a timestamp

two : (low high n : ℕ) (b : List ℕ) → Decided (Two low high n b)
two low high n b = mapped (λ h. (h.0.0, h.0.1, h.1)) (λ h. ((h.0, h.1), h.2))
    (both (both (at_most low n) (at_most n high)) (only (padded 2 n) b))

year : (y : ℕ) (b : List ℕ) → Decided (YearText y b)
year y b = both (at_most y 9999) (only (padded 4 y) b)

date : (y m d : ℕ) (b : List ℕ) → Decided (DateText y m d b)
date y m d b =
    joined b (YearText y) _ (year y) λ s. joined s (Only (45 ∷ [])) _ (only (45 ∷ [])) λ t.
    joined t (Two 1 12 m) _ (two 1 12 m) λ u. joined u (Only (45 ∷ [])) _ (only (45 ∷ [])) (two 1 (month_length y m) d)

clock : (h m s : ℕ) (b : List ℕ) → Decided (ClockText h m s b)
clock h m s b =
    joined b (Two 0 23 h) _ (two 0 23 h) λ t. joined t (Only (58 ∷ [])) _ (only (58 ∷ [])) λ u.
    joined u (Two 0 59 m) _ (two 0 59 m) λ v. joined v (Only (58 ∷ [])) _ (only (58 ∷ [])) (two 0 59 s)

all_digits : (b : List ℕ) → Decided (AllByRecursion IsDigit b)
all_digits [] = inl tt
all_digits (x ∷ b) = both (both (at_most 48 x) (at_most x 57)) (all_digits b)

decimals : (n : ℕ) (b : List ℕ) → Decided (Decimals n b)
decimals n b = mapped (λ h. (h.0.0, h.0.1, h.1.0, h.1.1)) (λ h. ((h.0, h.1), (h.2, h.3)))
    (both (both (at_most 1 (length b)) (at_most (length b) 6))
    (both (all_digits b) (cases_eq n (read_on 0 (b ++ replicate (6 - length b) 48)))))

fraction : (n : ℕ) (b : List ℕ) → Decided (FractionText n b)
fraction n b = either (both (cases_eq n 0) (only [] b)) (joined b (Only (46 ∷ [])) _ (only (46 ∷ [])) (decimals n))

-- hours and minutes of an offset
abbrev HoursMinutes : ℕ → ℕ → Language
HoursMinutes h m = Two 0 23 h ⋅ Only (58 ∷ []) ⋅ Two 0 59 m

hours_minutes : (h m : ℕ) (b : List ℕ) → Decided (HoursMinutes h m b)
hours_minutes h m b =
    joined b (Two 0 23 h) _ (two 0 23 h) λ t. joined t (Only (58 ∷ [])) _ (only (58 ∷ [])) (two 0 59 m)

abbrev AnOffset : Language
AnOffset b = (h : ℕ) × (h ≤ 23) × ((m : ℕ) × (m ≤ 59) × HoursMinutes h m b)

offset_to : (b : List ℕ) → AnOffset b → AnyOf OffsetText b
offset_to b (h, low, (m, few, t)) = (60 * h + m, (h, m, refl, t))

offset_from : (b : List ℕ) → AnyOf OffsetText b → AnOffset b
offset_from b (n, (h, m, e, (x, y, f, (l1, l2, l3), (z, w, g, k, (n1, n2, n3))))) =
    (h, l2, (m, n2, (x, y, f, (l1, l2, l3), (z, w, g, k, (n1, n2, n3)))))

offset : (b : List ℕ) → Decided (AnyOf OffsetText b)
offset b = mapped (offset_to b) (offset_from b) (within _ (λ h. within _ (λ m. hours_minutes h m b) 59) 23)

-- "Z", or a sign and an offset
abbrev AZone : Language
AZone b = Only (90 ∷ []) b
    ⊎ ((Only (43 ∷ []) ⋅ AnyOf OffsetText) b ⊎ (Only (45 ∷ []) ⋅ AnyOf OffsetText) b)

zone_to : (b : List ℕ) → AZone b → AnyOf ZoneText b
zone_to b (inl e) = (pos 0, inl (refl, e))
zone_to b (inr (inl (x, y, e, h, (m, k)))) = (pos m, inr (m, inl (refl, (x, y, e, h, k))))
zone_to b (inr (inr (x, y, e, h, (m, k)))) = (neg_ℤ (pos m), inr (m, inr (refl, (x, y, e, h, k))))

zone_from : (b : List ℕ) → AnyOf ZoneText b → AZone b
zone_from b (o, inl (e, f)) = inl f
zone_from b (o, inr (m, inl (e, (x, y, f, h, k)))) = inr (inl (x, y, f, h, (m, k)))
zone_from b (o, inr (m, inr (e, (x, y, f, h, k)))) = inr (inr (x, y, f, h, (m, k)))

zone : (b : List ℕ) → Decided (AnyOf ZoneText b)
zone b = mapped (zone_to b) (zone_from b)
    (either (only (90 ∷ []) b) (either (joined b (Only (43 ∷ [])) _ (only (43 ∷ [])) offset)
    (joined b (Only (45 ∷ [])) _ (only (45 ∷ [])) offset)))

-- ---- the whole

-- a timestamp of these numbers in some zone
abbrev Numbers : ℕ → ℕ → ℕ → ℕ → ℕ → ℕ → ℕ → Language
Numbers y mo d h mi s us =
    DateText y mo d ⋅ Only (84 ∷ []) ⋅ ClockText h mi s ⋅ FractionText us ⋅ AnyOf ZoneText

numbers : (y mo d h mi s us : ℕ) (b : List ℕ) → Decided (Numbers y mo d h mi s us b)
numbers y mo d h mi s us b =
    joined b (DateText y mo d) _ (date y mo d) λ t. joined t (Only (84 ∷ [])) _ (only (84 ∷ [])) λ u.
    joined u (ClockText h mi s) _ (clock h mi s) λ v. joined v (FractionText us) _ (fraction us) zone

abbrev Bounded : Language
Bounded b =
    (y : ℕ) × (y ≤ 9999) × ((mo : ℕ) × (mo ≤ 12) × ((d : ℕ) × (d ≤ 31) × ((h : ℕ) × (h ≤ 23) × ((mi : ℕ) × (mi ≤ 59)
    × ((s : ℕ) × (s ≤ 59) × ((us : ℕ) × (us ≤ 999_999) × Numbers y mo d h mi s us b))))))

bounded : (b : List ℕ) → Decided (Bounded b)
bounded b =
    within _ (λ y. within _ (λ mo. within _ (λ d. within _ (λ h. within _ (λ mi. within _ (λ s. within _ (λ us.
    numbers y mo d h mi s us b) 999_999) 59) 59) 23) 31) 12) 9999

abbrev made : (y mo d h mi s us : ℕ) → ℤ → CivilTime
made y mo d h mi s us o = record {
  civil = record { year = y; month = mo; day = d; hour = h; minute = mi; second = s; micros = us };
  offset = o;
}

in_zone : (y mo d h mi s us : ℕ) (b : List ℕ) → Numbers y mo d h mi s us b → AnyOf TimeText b
in_zone y mo d h mi s us b (x, r, e, p, (z, w, f, k, (u, v, g, q, (a, c, i, m, (o, n))))) =
    (made y mo d h mi s us o, (x, r, e, p, (z, w, f, k, (u, v, g, q, (a, c, i, m, n)))))

time_to : (b : List ℕ) → Bounded b → AnyOf TimeText b
time_to b (y, l1, (mo, l2, (d, l3, (h, l4, (mi, l5, (s, l6, (us, l7, t))))))) = in_zone y mo d h mi s us b t

month_most : (y m : ℕ) → month_length y m ≤ 31
month_most y m = grind (arith, nat_tests)

numbers_of : (t : CivilTime) (b : List ℕ) → TimeText t b
    → Numbers t.civil.year t.civil.month t.civil.day t.civil.hour t.civil.minute t.civil.second t.civil.micros b
numbers_of t b (x, r, e, p, (z, w, f, k, (u, v, g, q, (a, c, i, m, n)))) =
    (x, r, e, p, (z, w, f, k, (u, v, g, q, (a, c, i, m, (t.offset, n)))))

time_from : (b : List ℕ) → AnyOf TimeText b → Bounded b
time_from b (t, h) =
    let o = t.civil in
    let exists = time_exists t b h in
    let days : o.day ≤ 31 = omega (arith, month_most o.year o.month, exists.0.0.4) in (
      o.year,
      exists.0.0.0,
      (
        o.month,
        exists.0.0.2,
        (
          o.day,
          days,
          (
            o.hour,
            exists.0.1.0,
            (
              o.minute,
              exists.0.1.1,
              (o.second, exists.0.1.2, (o.micros, exists.0.1.3, numbers_of t b h)),
            ),
          ),
        ),
      ),
    )

pub decided : (b : List ℕ) → Decided (AnyOf TimeText b)
decided b = mapped (time_to b) (time_from b) (bounded b)
