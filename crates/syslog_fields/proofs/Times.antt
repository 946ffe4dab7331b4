-- Where the parts of a timestamp end and stop.
use Rattle.std.proofs.Common.{◌≡◌, ℕ, ◌+◌, ◌-◌, ◌*◌, ◌/◌, ◌%◌, ◌<◌, ◌≤◌, List, [], ◌∷◌, ◌++◌, length, refl, sym, ap}
use Rattle.std.proofs.Common.{subst, ◌∙◌, append_assoc, arith, inl, inr, ◌⊎◌}
use Rattle.std.proofs.lemmas.Bool.{cases_lt}
use Rattle.std.proofs.lemmas.Bool.Decides.{nat_tests}
use Rattle.std.proofs.lemmas.List.{append_cancel_left, length-append}
use Rattle.octet_language.specs.Digits.{IsDigit}
use Rattle.octet_language.specs.Language.{Language, Only, ◌⋅◌, AnyOf, Refuses, IsPrefixFree, IfFirst}
use Rattle.octet_language.specs.Reading.{Fails, Follows}
use Rattle.octet_language.proofs.Lists.{heads, tails}
use Rattle.octet_language.proofs.Delimited.{Fails-from_unfinished}
use Rattle.octet_language.proofs.Sequence.{IsPrefixFree-then}
use Rattle.octet_language.proofs.Chain.{Fails-first, Fails-later, Fails-same, Follows-then, IsPrefixFree-only}
use Rattle.octet_language.proofs.Chain.{IsPrefixFree-same}
use Rattle.syslog_value.specs.Calendar.{month_length}
use Rattle.syslog_fields.specs.Time.{padded, Two, YearText, OffsetText}
use Rattle.syslog_fields.specs.Dates.{YearMonth, Date, HourMinute, Clock}
use Rattle.syslog_fields.proofs.Separated.{Delimited, IsPrefixFree-length, IsPrefixFree-pair, OneValue, Hangs}
use Rattle.syslog_fields.proofs.Separated.{IsPrefixFree-hangs, IsPrefixFree-between, Fails-hangs_first}
use Rattle.syslog_fields.proofs.Separated.{Fails-hangs_later, regroup, ungroup}

-- ---- two digits

two_length : (low high : ℕ) (p : List ℕ) → AnyOf (Two low high) p → length p ≡ 2
two_length low high p (n, (l, h, e)) = ap length e

pub IsPrefixFree-two : (low high : ℕ) → IsPrefixFree (AnyOf (Two low high))
IsPrefixFree-two low high = IsPrefixFree-length (AnyOf (Two low high)) 2 (two_length low high)

-- what the two octets of a number are
record IsTwo (n x y : ℕ) : Type 0 where
  pub tens : x ≡ 48 + n / 10 % 10
  pub units : y ≡ 48 + n % 10

two_octets : (n x y : ℕ) (more : List ℕ) → x ∷ y ∷ more ≡ padded 2 n → IsTwo n x y
two_octets n x y more e =
    let first = heads x (48 + n / 10 % 10) (y ∷ more) ((48 + n % 10) ∷ []) e in
    record {
      tens = first;
      units = heads y (48 + n % 10) more []
          (tails x (48 + n / 10 % 10) (y ∷ more) ((48 + n % 10) ∷ []) e);
    }

two_first : (n x : ℕ) (more : List ℕ) → x ∷ more ≡ padded 2 n → x ≡ 48 + n / 10 % 10
two_first n x more e = heads x (48 + n / 10 % 10) more ((48 + n % 10) ∷ []) e

two_back : (n x y : ℕ) → x ≡ 48 + n / 10 % 10 → y ≡ 48 + n % 10 → x ∷ y ∷ [] ≡ padded 2 n
two_back n x y e f = ap (λ (k : ℕ). k ∷ y ∷ []) e ∙ ap (λ (k : ℕ). (48 + n / 10 % 10) ∷ k ∷ []) f

refuses_tens : (low high : ℕ) (b : List ℕ) → high ≤ 99 → IfFirst (λ x. (x < 48 + low / 10) ⊎ (48 + high / 10 < x)) b
    → Refuses (AnyOf (Two low high)) [] b
refuses_tens low high [] small out = tt
refuses_tens low high (x ∷ b) small out = λ (more, (n, (l, h, e))).
    let first : x ≡ 48 + n / 10 % 10 = two_first n x more e in
    elim out [ inl k ↦ omega arith | inr k ↦ omega arith ]

-- at the end, or before an octet that is no tens digit of the range
pub no_tens : (low high : ℕ) (b : List ℕ) → low ≤ high → high ≤ 99
    → IfFirst (λ x. (x < 48 + low / 10) ⊎ (48 + high / 10 < x)) b → Fails (AnyOf (Two low high)) b (length b)
no_tens low high b some small out =
    Fails-from_unfinished (AnyOf (Two low high)) b [] b ((48 + low % 10) ∷ []) (48 + low / 10 % 10)
    (IsPrefixFree-two low high) refl (low, (omega arith, some, refl)) (refuses_tens low high b small out)

-- the number that two octets write
abbrev pub number : ℕ → ℕ → ℕ
number x y = 10 * (x - 48) + (y - 48)

refuses_units : (low high x : ℕ) (rest : List ℕ) → high ≤ 99
    → IfFirst (λ y. IsDigit y → low ≤ number x y → number x y ≤ high → ⊥) rest
    → Refuses (AnyOf (Two low high)) (x ∷ []) rest
refuses_units low high x [] small out = tt
refuses_units low high x (y ∷ rest) small out = λ (more, (n, (l, h, e))).
    let k = two_octets n x y more e in
    let same : number x y ≡ n = omega (arith, k.tens, k.units) in
    out (omega (arith, k.units), omega (arith, k.units)) (omega (arith, same)) (omega (arith, same))

-- some number of the range with these tens
some_units : (low high x : ℕ) → low ≤ high → high ≤ 99 → 48 + low / 10 ≤ x → x ≤ 48 + high / 10
    → (n : ℕ) × (low ≤ n) × (n ≤ high) × (x ≡ 48 + n / 10 % 10)
some_units low high x some small least most = elim (cases_lt (10 * (x - 48)) low) [
  | inl k ↦ (low, omega arith, some, omega arith)
  | inr k ↦ (10 * (x - 48), k, omega arith, omega arith)
]

pub no_units : (low high : ℕ) (b : List ℕ) (x : ℕ) (rest : List ℕ) → low ≤ high → high ≤ 99 → b ≡ x ∷ rest
    → 48 + low / 10 ≤ x → x ≤ 48 + high / 10 → IfFirst (λ y. IsDigit y → low ≤ number x y → number x y ≤ high → ⊥) rest
    → Fails (AnyOf (Two low high)) b (length rest)
no_units low high b x rest some small e least most out =
    let k = some_units low high x some small least most in
    Fails-from_unfinished (AnyOf (Two low high)) b (x ∷ []) rest [] (48 + k.0 % 10) (IsPrefixFree-two low high) e
    (k.0, (k.1, k.2, two_back k.0 x (48 + k.0 % 10) k.3 refl)) (refuses_units low high x rest small out)

pub two_read : (low high : ℕ) (b : List ℕ) (x : ℕ) (rest : List ℕ) (y : ℕ) (after : List ℕ) → high ≤ 99 → b ≡ x ∷ rest
    → rest ≡ y ∷ after → 48 ≤ x → IsDigit y → low ≤ number x y → number x y ≤ high
    → Follows (Two low high (number x y)) b after
two_read low high b x rest y after small e f tens d l h =
    (x ∷ y ∷ [], e ∙ ap (λ (u : List ℕ). x ∷ u) f, (l, h, two_back (number x y) x y (omega arith) (omega arith)))

pub OneValue-two : (low high : ℕ) → high ≤ 99 → OneValue (Two low high)
OneValue-two low high small v w s (l, h, e) (m, i, f) =
    let k = two_octets v (48 + w / 10 % 10) (48 + w % 10) [] (sym f ∙ e) in
    omega (arith, k.tens, k.units)

-- numbers of two digits that are shown alike
pub two_shown : (n m : ℕ) → n ≤ 99 → m ≤ 99 → 48 + n / 10 % 10 ≡ 48 + m / 10 % 10 → 48 + n % 10 ≡ 48 + m % 10 → n ≡ m
two_shown n m h k a b = omega arith

-- ---- years

pub four_back : (a b c d a' b' c' d' : ℕ) → a ≡ a' → b ≡ b' → c ≡ c' → d ≡ d' → a ∷ b ∷ c ∷ d ∷ [] ≡ a' ∷ b' ∷ c' ∷ d' ∷ []
four_back a b c d a' b' c' d' e f g h = cc

century_year : (c y : ℕ) → c ≤ 99 → y ≤ 99 → padded 4 (100 * c + y) ≡ padded 2 c ++ padded 2 y
century_year c y h k = four_back (48 + (100 * c + y) / 10 / 10 / 10 % 10) (48 + (100 * c + y) / 10 / 10 % 10)
    (48 + (100 * c + y) / 10 % 10) (48 + (100 * c + y) % 10) (48 + c / 10 % 10) (48 + c % 10) (48 + y / 10 % 10)
    (48 + y % 10) (omega arith) (omega arith) (omega arith) (omega arith)

abbrev Halves : Language
Halves = AnyOf (Two 0 99) ⋅ AnyOf (Two 0 99)

year_halves : (s : List ℕ) → AnyOf YearText s → Halves s
year_halves s (y, (h, e)) =
    let whole : 100 * (y / 100) + y % 100 ≡ y = omega arith in (
      padded 2 (y / 100),
      padded 2 (y % 100),
      e ∙ ap (padded 4) (sym whole)
          ∙ century_year (y / 100) (y % 100) (omega arith) (omega arith),
      (y / 100, (omega arith, omega arith, refl)),
      (y % 100, (omega arith, omega arith, refl)),
    )

halves_year : (s : List ℕ) → Halves s → AnyOf YearText s
halves_year s (x, z, e, (c, (l, h, f)), (y, (m, i, g))) = (
  100 * c + y,
  (
    omega arith,
    e ∙ ap (λ (u : List ℕ). u ++ z) f ∙ ap (λ (u : List ℕ). padded 2 c ++ u) g
        ∙ sym (century_year c y h i),
  ),
)

pub bad_century : (b : List ℕ) (remaining : ℕ) → Fails (AnyOf (Two 0 99)) b remaining
    → Fails (AnyOf YearText) b remaining
bad_century b remaining f = Fails-same Halves (AnyOf YearText) b remaining halves_year year_halves
    (Fails-first (AnyOf (Two 0 99)) (AnyOf (Two 0 99)) b (padded 2 0) remaining (0, (omega arith, omega arith, refl)) f)

pub bad_year : (b rest : List ℕ) (c remaining : ℕ) → Follows (Two 0 99 c) b rest
    → Fails (AnyOf (Two 0 99)) rest remaining → Fails (AnyOf YearText) b remaining
bad_year b rest c remaining g f = Fails-same Halves (AnyOf YearText) b remaining halves_year year_halves
    (Fails-later (AnyOf (Two 0 99)) (AnyOf (Two 0 99)) b rest remaining (IsPrefixFree-two 0 99) (g.0, g.1, (c, g.2)) f)

pub year_read : (b rest end : List ℕ) (c y : ℕ) → Follows (Two 0 99 c) b rest → Follows (Two 0 99 y) rest end
    → Follows (YearText (100 * c + y)) b end
year_read b rest end c y (s, e, (l, h, f)) (t, g, (m, i, k)) = (
  s ++ t,
  e ∙ ap (λ (u : List ℕ). s ++ u) g ∙ sym (append_assoc s t end),
  (
    omega (arith, h, i),
    ap (λ (u : List ℕ). u ++ t) f ∙ ap (λ (u : List ℕ). padded 2 c ++ u) k ∙ sym (century_year c y h i),
  ),
)

pub IsPrefixFree-year : IsPrefixFree (AnyOf YearText)
IsPrefixFree-year = IsPrefixFree-length (AnyOf YearText) 4 (λ p (y, (h, e)). ap length e)

pub OneValue-year : OneValue YearText
OneValue-year v w s (h, e) (k, f) =
    let g : padded 4 v ≡ padded 4 w = sym e ∙ f in
    let a : 48 + v / 10 / 10 / 10 % 10 ≡ 48 + w / 10 / 10 / 10 % 10 = cc in
    let b : 48 + v / 10 / 10 % 10 ≡ 48 + w / 10 / 10 % 10 = cc in
    let c : 48 + v / 10 % 10 ≡ 48 + w / 10 % 10 = cc in
    let d : 48 + v % 10 ≡ 48 + w % 10 = cc in
    omega arith

-- ---- dates

pub IsPrefixFree-year_month : IsPrefixFree (AnyOf YearMonth)
IsPrefixFree-year_month = IsPrefixFree-pair YearText (Two 1 12) 45 IsPrefixFree-year (IsPrefixFree-two 1 12)

pub some_month : AnyOf (Two 1 12) (padded 2 1)
some_month = (1, (omega arith, omega arith, refl))

pub pair_ap : (a b c d : ℕ) → a ≡ b → c ≡ d → (let p : ℕ × ℕ = (a, c) in let q : ℕ × ℕ = (b, d) in p ≡ q)
pair_ap a b c d e f = cc

OneValue-year_month : OneValue YearMonth
OneValue-year_month v w s (x, y, e, h, (z, u, f, k, l)) (x', y', e', h', (z', u', f', k', l')) =
    let same : x ≡ x' = IsPrefixFree-year x y x' y' (v.0, h) (w.0, h') (sym e ∙ e') in
    let rests : y ≡ y' = append_cancel_left x y y' (sym e ∙ e' ∙ ap (λ (t : List ℕ). t ++ y') (sym same)) in
    let months : 45 ∷ u ≡ 45 ∷ u' = ap (λ (t : List ℕ). t ++ u) (sym k) ∙ sym f ∙ rests ∙ f'
    ∙ ap (λ (t : List ℕ). t ++ u') k' in
    pair_ap v.0 w.0 v.1 w.1 (OneValue-year v.0 w.0 x' (subst (YearText v.0) same h) h')
    (OneValue-two 1 12 (omega arith) v.1 w.1 u' (subst (Two 1 12 v.1) (tails 45 45 u u' months) l) l')

-- the days after a year and a month
abbrev pub Days : ℕ × ℕ → Language
Days d = Only (45 ∷ []) ⋅ AnyOf (Two 1 (month_length d.0 d.1))

hangs_date : (s : List ℕ) → Hangs YearMonth Days s → AnyOf Date s
hangs_date s (d, (p, z, e, h, (v, w, i, m, (day, n)))) = (
  (d.0, d.1, day),
  ungroup (YearText d.0) (Only (45 ∷ [])) (Two 1 12 d.1)
      (Only (45 ∷ []) ⋅ Two 1 (month_length d.0 d.1) day) s (p, z, e, h, (v, w, i, m, n)),
)

date_hangs : (s : List ℕ) → AnyOf Date s → Hangs YearMonth Days s
date_hangs s (d, h) =
    let k = regroup (YearText d.0) (Only (45 ∷ [])) (Two 1 12 d.1) (Only (45 ∷ []) ⋅ Two 1 (month_length d.0 d.1) d.2) s
    h in
    ((d.0, d.1), (k.0, k.1, k.2, k.3, (k.4.0, k.4.1, k.4.2, k.4.3, (d.2, k.4.4))))

as_date : (b : List ℕ) (remaining : ℕ) → Fails (Hangs YearMonth Days) b remaining → Fails (AnyOf Date) b remaining
as_date b remaining f = Fails-same (Hangs YearMonth Days) (AnyOf Date) b remaining hangs_date date_hangs f

long_month : (y m : ℕ) → (28 ≤ month_length y m) × (month_length y m ≤ 31)
long_month y m = (grind (arith, nat_tests), grind (arith, nat_tests))

first_day : (y m : ℕ) → AnyOf (Two 1 (month_length y m)) (padded 2 1)
first_day y m = (1, (omega arith, omega (arith, (long_month y m).0), refl))

some_day : (d : ℕ × ℕ) (s : List ℕ) → YearMonth d s → (t : List ℕ) × Days d t
some_day d s h = (45 ∷ padded 2 1, (45 ∷ [], padded 2 1, refl, refl, first_day d.0 d.1))

pub bad_year_month : (b : List ℕ) (remaining : ℕ) → Fails (AnyOf YearMonth) b remaining → Fails (AnyOf Date) b remaining
bad_year_month b remaining f = as_date b remaining (Fails-hangs_first YearMonth Days b remaining some_day f)

pub bad_nil : (b rest : List ℕ) (d : ℕ × ℕ) (remaining : ℕ) → Follows (YearMonth d) b rest
    → Fails (Only (45 ∷ [])) rest remaining → Fails (AnyOf Date) b remaining
bad_nil b rest d remaining g f = as_date b remaining
    (Fails-hangs_later YearMonth Days d b rest remaining IsPrefixFree-year_month OneValue-year_month g
    (Fails-first (Only (45 ∷ [])) (AnyOf (Two 1 (month_length d.0 d.1))) rest (padded 2 1) remaining (first_day d.0 d.1)
    f))

pub bad_day : (b rest after : List ℕ) (d : ℕ × ℕ) (high remaining : ℕ) → high ≡ month_length d.0 d.1
    → Follows (YearMonth d) b rest → Follows (Only (45 ∷ [])) rest after → Fails (AnyOf (Two 1 high)) after remaining
    → Fails (AnyOf Date) b remaining
bad_day b rest after d high remaining e g h f' =
    let f = subst (λ (k : ℕ). Fails (AnyOf (Two 1 k)) after remaining) e f' in
    as_date b remaining (Fails-hangs_later YearMonth Days d b rest remaining IsPrefixFree-year_month OneValue-year_month
    g (Fails-later (Only (45 ∷ [])) (AnyOf (Two 1 (month_length d.0 d.1))) rest after remaining
    (IsPrefixFree-only (45 ∷ [])) h f))

pub date_read : (b rest after end : List ℕ) (y m d : ℕ) → Follows (YearMonth (y, m)) b rest
    → Follows (Only (45 ∷ [])) rest after → Follows (Two 1 (month_length y m) d) after end
    → Follows (Date (y, m, d)) b end
date_read b rest after end y m d f g h =
    let k = Follows-then (YearMonth (y, m)) (Only (45 ∷ []) ⋅ Two 1 (month_length y m) d) b rest end f
    (Follows-then (Only (45 ∷ [])) (Two 1 (month_length y m) d) rest after end g h) in
    (k.0, k.1, ungroup (YearText y) (Only (45 ∷ [])) (Two 1 12 m) (Only (45 ∷ []) ⋅ Two 1 (month_length y m) d) k.0 k.2)

pub IsPrefixFree-date : IsPrefixFree (AnyOf Date)
IsPrefixFree-date = IsPrefixFree-same (Hangs YearMonth Days) (AnyOf Date) date_hangs
    (IsPrefixFree-hangs YearMonth Days IsPrefixFree-year_month OneValue-year_month
    (λ d. IsPrefixFree-then (Only (45 ∷ [])) (AnyOf (Two 1 (month_length d.0 d.1))) (IsPrefixFree-only (45 ∷ []))
    (IsPrefixFree-two 1 (month_length d.0 d.1))))

-- ---- times of day

pub IsPrefixFree-hour_minute : IsPrefixFree (AnyOf HourMinute)
IsPrefixFree-hour_minute = IsPrefixFree-pair (Two 0 23) (Two 0 59) 58 (IsPrefixFree-two 0 23) (IsPrefixFree-two 0 59)

pub some_two : (high : ℕ) → AnyOf (Two 0 high) (padded 2 0)
some_two high = (0, (omega arith, omega arith, refl))

abbrev pub Clocks : Language
Clocks = Delimited (AnyOf HourMinute) 58 (AnyOf (Two 0 59))

clocks_clock : (s : List ℕ) → Clocks s → AnyOf Clock s
clocks_clock s (p, z, e, (c, h), (v, w, i, m, (second, n))) = (
  (c.0, c.1, second),
  ungroup (Two 0 23 c.0) (Only (58 ∷ [])) (Two 0 59 c.1) (Only (58 ∷ []) ⋅ Two 0 59 second) s
      (p, z, e, h, (v, w, i, m, n)),
)

clock_clocks : (s : List ℕ) → AnyOf Clock s → Clocks s
clock_clocks s (c, h) =
    let k = regroup (Two 0 23 c.0) (Only (58 ∷ [])) (Two 0 59 c.1) (Only (58 ∷ []) ⋅ Two 0 59 c.2) s h in
    (k.0, k.1, k.2, ((c.0, c.1), k.3), (k.4.0, k.4.1, k.4.2, k.4.3, (c.2, k.4.4)))

pub as_clock : (b : List ℕ) (remaining : ℕ) → Fails Clocks b remaining → Fails (AnyOf Clock) b remaining
as_clock b remaining f = Fails-same Clocks (AnyOf Clock) b remaining clocks_clock clock_clocks f

pub clock_read : (b rest after end : List ℕ) (h m s : ℕ) → Follows (HourMinute (h, m)) b rest
    → Follows (Only (58 ∷ [])) rest after → Follows (Two 0 59 s) after end → Follows (Clock (h, m, s)) b end
clock_read b rest after end h m s f g i =
    let k = Follows-then (HourMinute (h, m)) (Only (58 ∷ []) ⋅ Two 0 59 s) b rest end f
    (Follows-then (Only (58 ∷ [])) (Two 0 59 s) rest after end g i) in
    (k.0, k.1, ungroup (Two 0 23 h) (Only (58 ∷ [])) (Two 0 59 m) (Only (58 ∷ []) ⋅ Two 0 59 s) k.0 k.2)

pub IsPrefixFree-clock : IsPrefixFree (AnyOf Clock)
IsPrefixFree-clock = IsPrefixFree-same Clocks (AnyOf Clock) clock_clocks
    (IsPrefixFree-between (AnyOf HourMinute) (AnyOf (Two 0 59)) 58 IsPrefixFree-hour_minute (IsPrefixFree-two 0 59))

-- ---- offsets

pub bad_offset : (b : List ℕ) (remaining : ℕ) → Fails (AnyOf HourMinute) b remaining
    → Fails (AnyOf OffsetText) b remaining
bad_offset b remaining f = Fails-same (AnyOf HourMinute) (AnyOf OffsetText) b remaining
    (λ s (c, h). (60 * c.0 + c.1, (c.0, c.1, refl, h))) (λ s (m, (h, i, e, k)). ((h, i), k)) f

pub offset_length : (b : List ℕ) → AnyOf OffsetText b → length b ≡ 5
offset_length b (m, (h, i, e, (x, y, f, (l1, l2, l3), (z, w, g, k, (n1, n2, n3))))) =
    omega (
      arith,
      ap length f,
      ap length g,
      ap length k,
      ap length l3,
      ap length n3,
      length-append x y,
      length-append z w,
    )
