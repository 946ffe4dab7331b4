-- A timestamp in UTC: when it is canonical as it is spelled, and its canonical text by its own digits.
use Rattle.std.proofs.Common.{◌≡◌, ◌≢◌, ℕ, suc, ◌+◌, ◌-◌, ◌*◌, ◌/◌, ◌%◌, ◌≤◌, List, [], ◌∷◌, ◌++◌, length, take, drop}
use Rattle.std.proofs.Common.{get_or, refl, sym, ap, ◌∙◌, append_assoc, arith, inl, inr, Bool, false}
use Rattle.std.specs.Prelude.{◌↔◌, IsTrue, ℤ, replicate, Option, Some, option_map}
use Rattle.std.specs.List.{AllByRecursion}
use Rattle.std.proofs.lemmas.List.{append-nil, get_or-append_right, get_or_append_left, length-append, length-drop}
use Rattle.octet_language.specs.Digits.{IsDigit, read_on}
use Rattle.octet_language.specs.Language.{Only, ◌⋅◌}
use Rattle.octet_language.specs.Reading.{Follows}
use Rattle.syslog_value.specs.declared.civil.Civil.{Civil}
use Rattle.syslog_fields.specs.Canonical.{civil_text}
use Rattle.syslog_fields.specs.Dates.{time_of}
use Rattle.syslog_fields.specs.Grammar.{Nilable, Spaced}
use Rattle.syslog_fields.specs.Time.{CivilTime, FractionText, OffsetText, TimeText, ZoneText, instant, padded}
use Rattle.syslog_fields.specs.declared.timestamp.Timestamp.{Timestamp}
use Rattle.syslog_reading.specs.CanonicalOctets.{utc_fraction}
use Rattle.syslog_reading.proofs.OneMeaning.{fixed}
use Rattle.syslog_reading.proofs.Viewing.{time_exists}
use Rattle.syslog_grammar.proofs.Bounded.{civil_len, time_some}
use Rattle.syslog_grammar.proofs.TimeForms.{TimeSpace, formed, unformed}

-- digits are the number that they spell, in so many digits
digits_padded : (b : List ℕ) (w n : ℕ) → AllByRecursion IsDigit b
    → padded (w + length b) (read_on n b) ≡ padded w n ++ b
digits_padded [] w n d =
    let width : w + 0 ≡ w = omega arith in
    ap (λ (k : ℕ). padded k n) width ∙ sym (append-nil (padded w n))
digits_padded (x ∷ b) w n d =
    let m : ℕ = 10 * n + (x - 48) in
    let tens : m / 10 ≡ n = omega (arith, d.0.0, d.0.1) in
    let unit : 48 + m % 10 ≡ x = omega (arith, d.0.0, d.0.1) in
    let width : w + length (x ∷ b) ≡ suc w + length b = omega arith in
    ap (λ (k : ℕ). padded k (read_on m b)) width ∙ digits_padded b (suc w) m d.1
    ∙ ap (λ (u : List ℕ). u ++ b) (ap (λ (k : ℕ). padded w k ++ (48 + m % 10) ∷ []) tens
    ∙ ap (λ (k : ℕ). padded w n ++ k ∷ []) unit) ∙ append_assoc (padded w n) (x ∷ []) b

six_padded : (b : List ℕ) → AllByRecursion IsDigit b → length b ≡ 6
    → b ≡ padded 6 (read_on 0 (b ++ replicate (6 - length b) 48))
six_padded b d l =
    let whole : b ++ replicate (6 - length b) 48 ≡ b = ap (λ (k : ℕ). b ++ replicate (6 - k) 48) l ∙ append-nil b in
    let width : 6 ≡ 0 + length b = omega arith in
    sym (ap (λ (u : List ℕ). padded 6 (read_on 0 u)) whole ∙ ap (λ (k : ℕ). padded k (read_on 0 b)) width
    ∙ digits_padded b 0 0 d)

fraction : (m : ℕ) (x : List ℕ) → FractionText m x → length x ≡ 7 → x ≡ 46 ∷ padded 6 m
fraction m x (inl (e, f)) l = absurd (omega (arith, l, ap length f))
fraction m x (inr (a, b, e, p, (least, most, d, g))) l =
    let point : x ≡ 46 ∷ b = e ∙ ap (λ (u : List ℕ). u ++ b) p in
    let six : length b ≡ 6 = omega (arith, l, ap length point) in
    point ∙ ap (λ (u : List ℕ). 46 ∷ u) (six_padded b d six ∙ ap (padded 6) (sym g))

-- an offset ends in a digit
signed_last : (k sign : ℕ) (x y : List ℕ) → (Only (sign ∷ []) ⋅ OffsetText k) y → length x + length y ≡ 8
    → get_or (x ++ y) 7 0 ≡ 90 → ⊥
signed_last k sign x y (
  a,
  b,
  e,
  p,
  (hour, minute, i, (u, v, j, (l1, l2, l3), (w, z, q, n, (p1, p2, p3)))),
) size last =
    let text : y ≡ sign ∷ (padded 2 hour ++ 58 ∷ padded 2 minute) =
    e ∙ ap (λ (t : List ℕ). t ++ b) p ∙ ap (λ (t : List ℕ). sign ∷ t) (j ∙ rw (l3, q, n, p3) refl) in
    let two : length x ≡ 2 = omega (arith, size, ap length text) in
    let digit : get_or (x ++ y) 7 0 ≡ 48 + minute % 10 =
    get_or-append_right x y 2 7 0 two (omega arith) ∙ ap (λ (t : List ℕ). get_or t 5 0) text in
    omega (arith, last, digit)

ending : (m : ℕ) (o : ℤ) (x y : List ℕ) → FractionText m x → ZoneText o y → length x + length y ≡ 8
    → get_or (x ++ y) 7 0 ≡ 90 → x ++ y ≡ 46 ∷ padded 6 m ++ 90 ∷ []
ending m o x y f (inl (a, z)) size last =
    ap (λ (u : List ℕ). x ++ u) z
    ∙ ap (λ (u : List ℕ). u ++ 90 ∷ []) (fraction m x f (omega (arith, size, ap length z)))
ending m o x y f (inr (k, inl (a, h))) size last = absurd (signed_last k 43 x y h size last)
ending m o x y f (inr (k, inr (a, h))) size last = absurd (signed_last k 45 x y h size last)

-- the date and the time of the day, in nineteen octets
abbrev front : Civil → List ℕ
front c =
    padded 4 c.year ++ (45 ∷ padded 2 c.month) ++ (45 ∷ padded 2 c.day) ++ (84 ∷ padded 2 c.hour)
    ++ (58 ∷ padded 2 c.minute) ++ (58 ∷ padded 2 c.second)

-- a time of 27 octets that ends in "Z" is canonical
zulu : (t : CivilTime) (s : List ℕ) → TimeText t s → length s ≡ 27 → get_or s 26 0 ≡ 90 → s ≡ civil_text t.civil
unfolding civil_text
zulu t s h long last = let f = fixed t s h in behind f.rest f.is f.behind
  where
    behind : (rest : List ℕ) → s ≡ front t.civil ++ rest → (FractionText t.civil.micros ⋅ ZoneText t.offset) rest
        → s ≡ civil_text t.civil
    behind rest is (x, y, e, f, z) =
        let whole : s ≡ front t.civil ++ (x ++ y) = is ∙ ap (λ (u : List ℕ). front t.civil ++ u) e in
        let size : length x + length y ≡ 8 = omega (arith, ap length whole, length-append x y, long) in
        let octet : get_or (x ++ y) 7 0 ≡ 90 = sym (ap (λ (u : List ℕ). get_or u 26 0) whole) ∙ last in
        whole ∙ ap (λ (u : List ℕ). front t.civil ++ u) (ending t.civil.micros t.offset x y f z size octet)

-- ---- the test

abbrev pub SpacedTime : Timestamp → List ℕ → List ℕ → Type 0
SpacedTime time octets behind = Follows (Spaced (Nilable TimeText (Some (time_of time)))) octets behind

abbrev pub IsFormedAt : Timestamp → List ℕ → List ℕ → Type 0
IsFormedAt time octets behind = Follows (TimeSpace (Some (instant (time_of time)))) octets behind

pub least : (time : Option Timestamp) (octets behind : List ℕ)
    → Follows (Spaced (Nilable TimeText (option_map time_of time))) octets behind → length behind ≤ length octets
least time octets behind (x, e, h) = omega (arith, ap length e, length-append x behind)

of_len : (c : Civil) (octets behind : List ℕ) → octets ≡ civil_text c ++ 32 ∷ behind
    → length octets - length behind ≡ 28
of_len c octets behind e = omega (arith, ap length e, length-append (civil_text c) (32 ∷ behind), civil_len c)

pub other_len : (time : Timestamp) (octets behind : List ℕ) → SpacedTime time octets behind
    → length octets - length behind ≢ 28 → IsTrue false ↔ IsFormedAt time octets behind
other_len time octets behind h ne = (
  λ u. absurd cc,
  λ k. absurd (ne (of_len time.civil octets behind (unformed (time_of time) octets behind behind h k))),
)

last_octet : (c : Civil) (behind : List ℕ) → get_or (civil_text c ++ 32 ∷ behind) 26 0 ≡ 90
unfolding civil_text
last_octet c behind = refl

pub by_last : (time : Timestamp) (octets behind : List ℕ) (r : Bool) → SpacedTime time octets behind
    → length octets - length behind ≡ 28 → IsTrue r ↔ (get_or octets 26 0 ≡ 90)
    → IsTrue r ↔ IsFormedAt time octets behind
by_last time octets behind r (x, e, (s, y, f, h, k)) size test = (
  λ u.
      let whole : octets ≡ s ++ 32 ∷ behind =
      e ∙ ap (λ (z : List ℕ). z ++ behind) (f ∙ ap (λ (z : List ℕ). s ++ z) k) ∙ append_assoc s (32 ∷ []) behind in
      let long : length s ≡ 27 = omega (arith, size, ap length whole, length-append s (32 ∷ behind)) in
      let last : get_or s 26 0 ≡ 90 =
      sym (get_or_append_left s (32 ∷ behind) 0 26 (omega arith)) ∙ sym (ap (λ (z : List ℕ). get_or z 26 0) whole)
      ∙ test.0 u in
      formed (time_of time) octets behind behind (x, e, (s, y, f, h, k))
      (whole ∙ ap (λ (z : List ℕ). z ++ 32 ∷ behind) (zulu (time_of time) s h long last)),
  λ g. test.1 (ap (λ (z : List ℕ). get_or z 26 0) (unformed (time_of time) octets behind behind (x, e, (s, y, f, h, k)) g)
      ∙ last_octet time.civil behind),
)

-- ---- the canonical text of a time in UTC

-- the digits of a time, and then its microseconds in six digits
pub utc_text : (t : CivilTime) (s more : List ℕ) → TimeText t s
    → take 19 (s ++ more) ++ utc_fraction t.civil.micros ≡ civil_text t.civil
unfolding civil_text
utc_text t s more h =
    let f = fixed t s h in
    ap (λ (u : List ℕ). take 19 (u ++ more) ++ utc_fraction t.civil.micros) f.is

-- a time has a date and a time of the day at least
pub least_time : (time : Timestamp) (octets rest : List ℕ) (at : ℕ) → at ≤ length octets
    → SpacedTime time (drop at octets) rest → at + 19 ≤ length octets
least_time time octets rest at within (x, e, (s, y, f, h, k)) = omega (
  arith,
  length-drop at octets,
  ap length e,
  length-append x rest,
  ap length f,
  length-append s y,
  time_some (time_of time) s h,
)

pub most_micros : (time : Timestamp) (octets rest : List ℕ) → SpacedTime time octets rest
    → time.civil.micros ≤ 999_999
most_micros time octets rest (x, e, (s, y, f, h, k)) = (time_exists (time_of time) s h).0.1.3
