-- One text has one meaning, part by part.
use Rattle.std.proofs.Common.{◌≡◌, ◌≢◌, ℕ, ◌+◌, ◌-◌, ◌/◌, ◌%◌, ◌≤◌, List, [], ◌∷◌, ◌++◌, length, take, refl, sym, ap}
use Rattle.std.proofs.Common.{subst, ◌∙◌, append_assoc, arith, inl, inr}
use Rattle.std.specs.Prelude.{ℤ, pos, neg_ℤ, Option, Some, None, option_map, replicate}
use Rattle.std.specs.Fmt.{decimal}
use Rattle.std.proofs.lemmas.Fmt.{decimal_injective}
use Rattle.std.proofs.lemmas.List.{append_cancel_left, append_cancel_right}
use Rattle.octet_language.specs.Digits.{IsDigit, read_on}
use Rattle.octet_language.specs.Language.{Language, Only, ◌⋅◌, AnyOf, Each, IsPrefixFree, IfFirst}
use Rattle.octet_language.proofs.Lists.{heads, tails, by_length}
use Rattle.syslog_value.specs.Parts.{ParamParts, ElementParts, MessageParts, AnyOctets, Utf8Text, bom}
use Rattle.syslog_fields.specs.Grammar.{Nilable, Word, Spaced, Priority, Param, Element, StructuredDataText, Message}
use Rattle.syslog_fields.specs.Grammar.{MessagePart}
use Rattle.syslog_fields.specs.Time.{CivilTime, instant, padded, OffsetText, ZoneText, FractionText, TimeText}
use Rattle.syslog_fields.proofs.Ahead.{may_start, same_run}
use Rattle.syslog_fields.proofs.Classes.{Ends}
use Rattle.syslog_fields.proofs.Fractions.{AnyZone, IsSign, zone_prefix, zone_starts}
use Rattle.syslog_fields.proofs.ParamTexts.{IsPrefixFree-param, IsPrefixFree-element, param_some, element_prefix}
use Rattle.syslog_fields.proofs.Times.{OneValue-year}
use Rattle.syslog_fields.proofs.Unescaped.{meaning}
use Rattle.syslog_reading.proofs.OwnedParts.{param_same, param_is, element_same, element_is}
use Rattle.syslog_reading.proofs.Viewing.{time_exists}
use Rattle.syslog_value.proofs.DayNumbers.{month_most}

-- the two parts of a text, by one prefix
pub by_prefix : (L : Language) (x y u v : List ℕ) → IsPrefixFree L → L x → L u → x ++ y ≡ u ++ v → (x ≡ u) × (y ≡ v)
by_prefix L x y u v one a b e =
    let same = one x y u v a b e in
    (same, append_cancel_left x y v (e ∙ ap (λ (s : List ℕ). s ++ v) (sym same)))

-- ---- times

two_same : (n m : ℕ) → n ≤ 99 → m ≤ 99 → padded 2 n ≡ padded 2 m → n ≡ m
two_same n m h k e =
    let a : 48 + n / 10 % 10 ≡ 48 + m / 10 % 10 = cc in
    let b : 48 + n % 10 ≡ 48 + m % 10 = cc in
    omega arith

offset_same : (m n : ℕ) (s : List ℕ) → OffsetText m s → OffsetText n s → m ≡ n
offset_same m n s (h, i, e, (x, y, f, (l0, l1, l2), (z, w, g, k, (p0, p1, p2))))
    (h', i', e', (x', y', f', (l0', l1', l2'), (z', w', g', k', (p0', p1', p2')))) =
    let left : s ≡ padded 2 h ++ (58 ∷ padded 2 i) = f ∙ rw (l2, g, k, p2) refl in
    let right : s ≡ padded 2 h' ++ (58 ∷ padded 2 i') = f' ∙ rw (l2', g', k', p2') refl in
    let both = by_length (padded 2 h) (padded 2 h') (58 ∷ padded 2 i) (58 ∷ padded 2 i') refl (sym left ∙ right) in
    let hours = two_same h h' (omega arith) (omega arith) both.0 in
    let minutes = two_same i i' (omega arith) (omega arith) (tails 58 58 (padded 2 i) (padded 2 i') both.1) in
    omega (arith, e, e', hours, minutes)

-- the octet of a sign, and the offset after it
signed : (k : ℕ) (m : ℕ) (s : List ℕ) → (Only (k ∷ []) ⋅ OffsetText m) s → (t : List ℕ) × (s ≡ k ∷ t) × OffsetText m t
signed k m s (x, y, e, h, o) = (y, e ∙ ap (λ (u : List ℕ). u ++ y) h, o)

zone_same : (o p : ℤ) (s : List ℕ) → ZoneText o s → ZoneText p s → o ≡ p
zone_same o p s (inl (a, e)) (inl (b, f)) = a ∙ sym b
zone_same o p s (inl (a, e)) (inr (m, inl (b, k))) = let r = signed 43 m s k in
    absurd (omega (arith, heads 90 43 [] r.0 (sym e ∙ r.1)))
zone_same o p s (inl (a, e)) (inr (m, inr (b, k))) = let r = signed 45 m s k in
    absurd (omega (arith, heads 90 45 [] r.0 (sym e ∙ r.1)))
zone_same o p s (inr (m, inl (b, k))) (inl (a, e)) = let r = signed 43 m s k in
    absurd (omega (arith, heads 90 43 [] r.0 (sym e ∙ r.1)))
zone_same o p s (inr (m, inr (b, k))) (inl (a, e)) = let r = signed 45 m s k in
    absurd (omega (arith, heads 90 45 [] r.0 (sym e ∙ r.1)))
zone_same o p s (inr (m, inl (b, k))) (inr (n, inl (c, l))) =
    let r = signed 43 m s k in let q = signed 43 n s l in
    b ∙ ap pos (offset_same m n q.0 (subst (OffsetText m) (tails 43 43 r.0 q.0 (sym r.1 ∙ q.1)) r.2) q.2) ∙ sym c
zone_same o p s (inr (m, inr (b, k))) (inr (n, inr (c, l))) =
    let r = signed 45 m s k in let q = signed 45 n s l in
    b ∙ ap (λ (i : ℕ). neg_ℤ (pos i)) (offset_same m n q.0
    (subst (OffsetText m) (tails 45 45 r.0 q.0 (sym r.1 ∙ q.1)) r.2) q.2) ∙ sym c
zone_same o p s (inr (m, inl (b, k))) (inr (n, inr (c, l))) =
    let r = signed 43 m s k in let q = signed 45 n s l in absurd (omega (arith, heads 43 45 r.0 q.0 (sym r.1 ∙ q.1)))
zone_same o p s (inr (m, inr (b, k))) (inr (n, inl (c, l))) =
    let r = signed 45 m s k in let q = signed 43 n s l in absurd (omega (arith, heads 45 43 r.0 q.0 (sym r.1 ∙ q.1)))

no_sign : ¬ (IsSign 46)
no_sign (inl e) = omega (arith, e)
no_sign (inr (inl e)) = omega (arith, e)
no_sign (inr (inr e)) = omega (arith, e)

not_point : (y t : List ℕ) → AnyZone y → y ≡ 46 ∷ t → ⊥
not_point y t h e = no_sign (zone_prefix 46 t (subst AnyZone e h))

rest_same : (m n : ℕ) (o p : ℤ) (s : List ℕ) → (FractionText m ⋅ ZoneText o) s → (FractionText n ⋅ ZoneText p) s
    → (m ≡ n) × (o ≡ p)
rest_same m n o p s (x, y, e, inl (a, f), h) (u, v, g, inl (b, k), l) =
    let same : y ≡ v = ap (λ (t : List ℕ). t ++ y) (sym f) ∙ sym e ∙ g ∙ ap (λ (t : List ℕ). t ++ v) k in
    (a ∙ sym b, zone_same o p v (subst (ZoneText o) same h) l)
rest_same m n o p s (x, y, e, inl (a, f), h) (u, v, g, inr (c, d, i, j, q), l) =
    absurd (not_point y (d ++ v) (o, h) (ap (λ (t : List ℕ). t ++ y) (sym f) ∙ sym e ∙ g
    ∙ ap (λ (t : List ℕ). t ++ v) (i ∙ ap (λ (t : List ℕ). t ++ d) j)))
rest_same m n o p s (u, v, g, inr (c, d, i, j, q), l) (x, y, e, inl (a, f), h) =
    absurd (not_point y (d ++ v) (p, h) (ap (λ (t : List ℕ). t ++ y) (sym f) ∙ sym e ∙ g
    ∙ ap (λ (t : List ℕ). t ++ v) (i ∙ ap (λ (t : List ℕ). t ++ d) j)))
rest_same m n o p s (x, y, e, inr (a, b, f, i, (q0, q1, q2, q3)), h) (u, v, g, inr (c, d, j, k, (r0, r1, r2, r3)), l) =
    let left : s ≡ 46 ∷ (b ++ y) = e ∙ ap (λ (t : List ℕ). t ++ y) (f ∙ ap (λ (t : List ℕ). t ++ b) i) in
    let right : s ≡ 46 ∷ (d ++ v) = g ∙ ap (λ (t : List ℕ). t ++ v) (j ∙ ap (λ (t : List ℕ). t ++ d) k) in
    let both : b ++ y ≡ d ++ v = tails 46 46 (b ++ y) (d ++ v) (sym left ∙ right) in
    let digits : b ≡ d = same_run IsDigit b d y v q2 r2 (may_start (Ends IsDigit) AnyZone zone_starts y (o, h))
    (may_start (Ends IsDigit) AnyZone zone_starts v (p, l)) both in
    let zones : y ≡ v = append_cancel_left b y v (both ∙ ap (λ (t : List ℕ). t ++ v) (sym digits)) in (
      q3 ∙ ap (λ (t : List ℕ). read_on 0 (t ++ replicate (6 - length t) 48)) digits
          ∙ sym r3,
      zone_same o p v (subst (ZoneText o) zones h) l,
    )

-- a time by its fields of one width, and the rest of it
pub record Fixed (t : CivilTime) (b : List ℕ) : Type 0 where
  pub rest : List ℕ
  pub is : b ≡ padded 4 t.civil.year ++ (45 ∷ padded 2 t.civil.month) ++ (45 ∷ padded 2 t.civil.day)
      ++ (84 ∷ padded 2 t.civil.hour) ++ (58 ∷ padded 2 t.civil.minute) ++ (58 ∷ padded 2 t.civil.second) ++ rest
  pub behind : (FractionText t.civil.micros ⋅ ZoneText t.offset) rest

pub fixed : (t : CivilTime) (b : List ℕ) → TimeText t b → Fixed t b
fixed t b (
  x,
  y,
  e,
  (a, c, f, (yl, ye), (d, g, h, i, (j, k, l, (ml, mh, me), (m, n, o, p, (dl, dh, de))))),
  (
    q,
    r,
    s,
    u,
    (
      v,
      w,
      z,
      (
        v1,
        w1,
        z1,
        (hl, hh, he),
        (v2, w2, z2, i2, (v3, w3, z3, (nl, nh, ne), (v4, w4, z4, i4, (sl, sh, se)))),
      ),
      behind,
    ),
  ),
) =
    record {
      rest = w;
      is = e ∙ rw (f, ye, h, i, l, me, o, p, de, s, u, z, z1, he, z2, i2, z3, ne, z4, i4, se) refl;
      behind = behind;
    }

abbrev made : ℕ → ℕ → ℕ → ℕ → ℕ → ℕ → ℕ → ℤ → CivilTime
made y m d h i s u o = record {
  civil = record {
    year = y;
    month = m;
    day = d;
    hour = h;
    minute = i;
    second =
        s;
    micros = u;
  };
  offset = o;
}

-- one text is one time
pub time_same : (t u : CivilTime) (b : List ℕ) → TimeText t b → TimeText u b → t ≡ u
time_same t u b h k =
    let f = fixed t b h in
    let g = fixed u b k in
    let ht = time_exists t b h in
    let hu = time_exists u b k in
    let s0 = by_length (padded 4 t.civil.year) (padded 4 u.civil.year)
    ((45 ∷ padded 2 t.civil.month) ++ (45 ∷ padded 2 t.civil.day) ++ (84 ∷ padded 2 t.civil.hour)
    ++ (58 ∷ padded 2 t.civil.minute) ++ (58 ∷ padded 2 t.civil.second) ++ f.rest)
    ((45 ∷ padded 2 u.civil.month) ++ (45 ∷ padded 2 u.civil.day) ++ (84 ∷ padded 2 u.civil.hour)
    ++ (58 ∷ padded 2 u.civil.minute) ++ (58 ∷ padded 2 u.civil.second) ++ g.rest) refl (sym f.is ∙ g.is) in
    let s1 = by_length (45 ∷ padded 2 t.civil.month) (45 ∷ padded 2 u.civil.month)
    ((45 ∷ padded 2 t.civil.day) ++ (84 ∷ padded 2 t.civil.hour) ++ (58 ∷ padded 2 t.civil.minute)
    ++ (58 ∷ padded 2 t.civil.second) ++ f.rest)
    ((45 ∷ padded 2 u.civil.day) ++ (84 ∷ padded 2 u.civil.hour) ++ (58 ∷ padded 2 u.civil.minute)
    ++ (58 ∷ padded 2 u.civil.second) ++ g.rest) refl s0.1 in
    let s2 = by_length (45 ∷ padded 2 t.civil.day) (45 ∷ padded 2 u.civil.day)
    ((84 ∷ padded 2 t.civil.hour) ++ (58 ∷ padded 2 t.civil.minute) ++ (58 ∷ padded 2 t.civil.second) ++ f.rest)
    ((84 ∷ padded 2 u.civil.hour) ++ (58 ∷ padded 2 u.civil.minute) ++ (58 ∷ padded 2 u.civil.second) ++ g.rest) refl
    s1.1 in
    let s3 = by_length (84 ∷ padded 2 t.civil.hour) (84 ∷ padded 2 u.civil.hour)
    ((58 ∷ padded 2 t.civil.minute) ++ (58 ∷ padded 2 t.civil.second) ++ f.rest)
    ((58 ∷ padded 2 u.civil.minute) ++ (58 ∷ padded 2 u.civil.second) ++ g.rest) refl s2.1 in
    let s4 = by_length (58 ∷ padded 2 t.civil.minute) (58 ∷ padded 2 u.civil.minute)
    ((58 ∷ padded 2 t.civil.second) ++ f.rest) ((58 ∷ padded 2 u.civil.second) ++ g.rest) refl s3.1 in
    let s5 = by_length (58 ∷ padded 2 t.civil.second) (58 ∷ padded 2 u.civil.second) f.rest g.rest refl s4.1 in
    let year : t.civil.year ≡ u.civil.year = OneValue-year t.civil.year u.civil.year (padded 4 u.civil.year)
    (ht.0.0.0, sym s0.0) (hu.0.0.0, refl) in
    let month : t.civil.month ≡ u.civil.month =
    two_same t.civil.month u.civil.month (omega arith) (omega arith)
    (tails 45 45 (padded 2 t.civil.month) (padded 2 u.civil.month) s1.0) in
    let day : t.civil.day ≡ u.civil.day =
    two_same t.civil.day u.civil.day (omega (arith, month_most t.civil.year t.civil.month, ht.0.0.4))
    (omega (arith, month_most u.civil.year u.civil.month, hu.0.0.4))
    (tails 45 45 (padded 2 t.civil.day) (padded 2 u.civil.day) s2.0) in
    let hour : t.civil.hour ≡ u.civil.hour = two_same t.civil.hour u.civil.hour (omega arith) (omega arith)
    (tails 84 84 (padded 2 t.civil.hour) (padded 2 u.civil.hour) s3.0) in
    let minute : t.civil.minute ≡ u.civil.minute =
    two_same t.civil.minute u.civil.minute (omega arith) (omega arith)
    (tails 58 58 (padded 2 t.civil.minute) (padded 2 u.civil.minute) s4.0) in
    let second : t.civil.second ≡ u.civil.second =
    two_same t.civil.second u.civil.second (omega arith) (omega arith)
    (tails 58 58 (padded 2 t.civil.second) (padded 2 u.civil.second) s5.0) in
    let last = rest_same t.civil.micros u.civil.micros t.offset u.offset g.rest
    (subst (FractionText t.civil.micros ⋅ ZoneText t.offset) s5.1 f.behind) g.behind in
    let same : made t.civil.year t.civil.month t.civil.day t.civil.hour t.civil.minute t.civil.second t.civil.micros
    t.offset
    ≡ made u.civil.year u.civil.month u.civil.day u.civil.hour u.civil.minute u.civil.second u.civil.micros u.offset =
    rw (year, month, day, hour, minute, second, last.0, last.1) refl in
    same

no_nil : (t : CivilTime) (b : List ℕ) → TimeText t b → b ≡ 45 ∷ [] → ⊥
no_nil t b h e = let f = fixed t b h in let i : ◌≡◌ {A =
    List ℕ} (45 ∷ []) (padded 4 t.civil.year ++ (45 ∷ padded 2 t.civil.month) ++ (45 ∷ padded 2 t.civil.day)
    ++ (84 ∷ padded 2 t.civil.hour) ++ (58 ∷ padded 2 t.civil.minute) ++ (58 ∷ padded 2 t.civil.second) ++ f.rest) =
    sym e ∙ f.is in absurd (cc)

pub nilable_time_same : (t u : Option CivilTime) (b : List ℕ) → Nilable TimeText t b → Nilable TimeText u b
    → option_map instant t ≡ option_map instant u
nilable_time_same None None b h k = refl
nilable_time_same None (Some u) b h k = absurd (no_nil u b k h)
nilable_time_same (Some t) None b h k = absurd (no_nil t b h k)
nilable_time_same (Some t) (Some u) b h k = ap (λ (c : CivilTime). Some (instant c)) (time_same t u b h k)

-- ---- words and the priority

pub word_same : (n : ℕ) (v w : Option (List ℕ)) (b : List ℕ) → Nilable (Word n) v b → Nilable (Word n) w b → v ≡ w
word_same n None None b h k = refl
word_same n None (Some w) b h k = absurd (k.0.not_nil (sym k.1 ∙ h))
word_same n (Some v) None b h k = absurd (h.0.not_nil (sym h.1 ∙ k))
word_same n (Some v) (Some w) b h k = ap Some (sym h.1 ∙ k.1)

-- a field and the space that follows it
pub spaced : {V : Type 0} (A : V → Language) (v w : V) (b : List ℕ) → Spaced (A v) b → Spaced (A w) b
    → (x : List ℕ) × A v x × A w x
spaced A v w b (x, y, e, h, k) (u, s, f, l, m) =
    let same : x ≡ u = append_cancel_right x u (32 ∷ [])
    (ap (λ (t : List ℕ). x ++ t) (sym k) ∙ sym e ∙ f ∙ ap (λ (t : List ℕ). u ++ t) m) in
    (u, subst (A v) same h, l)

pub priority_same : (v w : ℕ) (b : List ℕ) → Priority v b → Priority w b → v ≡ w
priority_same v w b (x, y, e, h, (d, m, f, (vs, k), n)) (x', y', e', h', (d', m', f', (ws, k'), n')) =
    let left : b ≡ 60 ∷ (decimal v ++ 62 ∷ []) = e ∙ rw (h, f, k, n) refl in
    let right : b ≡ 60 ∷ (decimal w ++ 62 ∷ []) = e' ∙ rw (h', f', k', n') refl in
    decimal_injective v w (omega arith) (omega arith)
    (append_cancel_right (decimal v) (decimal w) (62 ∷ [])
    (tails 60 60 (decimal v ++ 62 ∷ []) (decimal w ++ 62 ∷ []) (sym left ∙ right)))

-- ---- elements

each_same : {V : Type 0} (A : V → Language) → IsPrefixFree (AnyOf A) → ¬ (AnyOf A [])
    → ((v w : V) (s : List ℕ) → A v s → A w s → v ≡ w) → (vs ws : List V) (s : List ℕ) → Each A vs s → Each A ws s
    → vs ≡ ws
each_same A prefix some one [] [] s h k = refl
each_same A prefix some one [] (w ∷ ws) s h (x, y, e, k, l) = absurd (some (w, nil_prefix (A w) x y (sym e ∙ h) k))
  where
    nil_prefix : (L : Language) (x y : List ℕ) → x ++ y ≡ [] → L x → L []
    nil_prefix L [] y e h = h
    nil_prefix L (z ∷ x) y e h = absurd cc
each_same A prefix some one (v ∷ vs) [] s (x, y, e, k, l) h = absurd (some (v, nil_prefix (A v) x y (sym e ∙ h) k))
  where
    nil_prefix : (L : Language) (x y : List ℕ) → x ++ y ≡ [] → L x → L []
    nil_prefix L [] y e h = h
    nil_prefix L (z ∷ x) y e h = absurd cc
each_same {V = V} A prefix some one (v ∷ vs) (w ∷ ws) s (x, y, e, h, k) (u, t, f, l, m) =
    let both = by_prefix (AnyOf A) x y u t prefix (v, h) (w, l) (sym e ∙ f) in
    ap (λ (a : V). a ∷ vs) (one v w u (subst (A v) both.0 h) l)
    ∙ ap (λ (as' : List V). w ∷ as') (each_same A prefix some one vs ws t (subst (Each A vs) both.1 k) m)

param_values : (p q : ParamParts) (s : List ℕ) → Param p s → Param q s → p ≡ q
param_values p q s h (x, y, e, i, (z, w, g, k, (u, v, f, l, (a, r, j, (ms, m, c), n)))) =
    let same = param_same p (record { name = q.name; raw = a }) s h (
      x,
      y,
      e,
      i,
      (
        z,
        w,
        g,
        k,
        (
          61 ∷ [],
          34 ∷ v,
          f
              ∙ ap (λ (t : List ℕ). t ++ v) l,
          refl,
          (34 ∷ [], v, refl, refl, (a, r, j, ((ms, c), refl), n)),
        ),
      ),
    ) in
    let value : p.value ≡ q.value = sym (meaning p.value a same.1) ∙ meaning q.value a (ms, m, c) in
    param_is p q.name q.value same.0 value

element_values : (p q : ElementParts) (s : List ℕ) → Element p s → Element q s → p ≡ q
element_values p q s h (x, y, e, i, (z, w, g, k, (u, v, f, l, m))) =
    let same = element_same p (record { id = q.id; params = u }) s h
    (x, y, e, i, (z, w, g, k, (u, v, f, ((q.params, l), refl), m))) in
    element_is p q.id q.params same.0 (each_same Param IsPrefixFree-param param_some param_values p.params q.params u
    same.1 l)

no_bracket : (e : ElementParts) (x y s t : List ℕ) → Element e x → IfFirst (λ z. z ≢ 91) s → s ≡ (x ++ y) ++ t → ⊥
no_bracket e x y [] t h u f = let k = element_prefix x (e, h) in let i : ◌≡◌ {A = List ℕ} [] (91 ∷ ((k.0 ++ y) ++ t)) =
    f ∙ ap (λ (w : List ℕ). (w ++ y) ++ t) k.1 in absurd cc
no_bracket e x y (z ∷ s) t h u f = let k = element_prefix x (e, h) in
    u (heads z 91 s ((k.0 ++ y) ++ t) (f ∙ ap (λ (w : List ℕ). (w ++ y) ++ t) k.1))

elements_same : (es fs : List ElementParts) (p s q t : List ℕ) → Each Element es p → Each Element fs q
    → IfFirst (λ x. x ≢ 91) s → IfFirst (λ x. x ≢ 91) t → p ++ s ≡ q ++ t → (es ≡ fs) × (s ≡ t)
elements_same [] [] p s q t h k u v e = (refl, ap (λ (w : List ℕ). w ++ s) (sym h) ∙ e ∙ ap (λ (w : List ℕ). w ++ t) k)
elements_same [] (f ∷ fs) p s q t h (x, y, g, k, l) u v e =
    absurd (no_bracket f x y s t k u (ap (λ (w : List ℕ). w ++ s) (sym h) ∙ e ∙ ap (λ (w : List ℕ). w ++ t) g))
elements_same (f ∷ es) [] p s q t (x, y, g, h, l) k u v e =
    absurd (no_bracket f x y t s h v (ap (λ (w : List ℕ). w ++ t) (sym k) ∙ sym e ∙ ap (λ (w : List ℕ). w ++ s) g))
elements_same (f ∷ es) (d ∷ fs) p s q t (x, y, g, h, l) (z, w, i, k, m) u v e =
    let whole : x ++ (y ++ s) ≡ z ++ (w ++ t) =
    sym (append_assoc x y s) ∙ ap (λ (c : List ℕ). c ++ s) (sym g) ∙ e ∙ ap (λ (c : List ℕ). c ++ t) i
    ∙ append_assoc z w t in
    let both = by_prefix (AnyOf Element) x (y ++ s) z (w ++ t) IsPrefixFree-element (f, h) (d, k) whole in
    let deeper = elements_same es fs y s w t l m u v both.1 in (
      ap (λ (a : ElementParts). a ∷ es) (element_values f d z (subst (Element f) both.0 h) k)
          ∙ ap (λ (as' : List ElementParts). d ∷ as') deeper.0,
      deeper.1,
    )

pub data_same : (es fs : List ElementParts) (p s q t : List ℕ) → StructuredDataText es p → StructuredDataText fs q
    → IfFirst (λ x. x ≢ 91) s → IfFirst (λ x. x ≢ 91) t → p ++ s ≡ q ++ t → (es ≡ fs) × (s ≡ t)
data_same [] [] p s q t h k u v e = (
  refl,
  tails 45 45 s t (ap (λ (w : List ℕ). w ++ s) (sym h) ∙ e ∙ ap (λ (w : List ℕ). w ++ t) k),
)
data_same [] (f ∷ fs) p s q t h (x, y, g, k, l) u v e =
    let r = element_prefix x (f, k) in
    absurd (omega (
      arith,
      heads 45 91 s ((r.0 ++ y) ++ t)
          (ap (λ (w : List ℕ). w ++ s) (sym h) ∙ e ∙ ap (λ (w : List ℕ). w ++ t) (g ∙ ap (λ (w : List ℕ). w ++ y) r.1)),
    ))
data_same (f ∷ es) [] p s q t (x, y, g, k, l) h u v e =
    let r = element_prefix x (f, k) in
    absurd (omega (
      arith,
      heads 45 91 t ((r.0 ++ y) ++ s)
          (ap (λ (w : List ℕ). w ++ t) (sym h) ∙ sym e
          ∙ ap (λ (w : List ℕ). w ++ s) (g ∙ ap (λ (w : List ℕ). w ++ y) r.1)),
    ))
data_same (f ∷ es) (d ∷ fs) p s q t h k u v e = elements_same (f ∷ es) (d ∷ fs) p s q t h k u v e

-- ---- the message

pub message_same : (m n : MessageParts) (b : List ℕ) → Message m b → Message n b → m ≡ n
message_same (AnyOctets a) (AnyOctets c) b h k = ap AnyOctets (sym h.2 ∙ k.2)
message_same (AnyOctets a) (Utf8Text c) b h (i, (x, y, e, k, l)) =
    absurd (h.1 (ap (take 3) (sym h.2 ∙ e ∙ ap (λ (t : List ℕ). t ++ y) k)))
message_same (Utf8Text c) (AnyOctets a) b (i, (x, y, e, k, l)) h =
    absurd (h.1 (ap (take 3) (sym h.2 ∙ e ∙ ap (λ (t : List ℕ). t ++ y) k)))
message_same (Utf8Text a) (Utf8Text c) b (i, (x, y, e, k, l)) (j, (u, v, f, m, n)) =
    ap Utf8Text (sym l ∙ append_cancel_left bom y v
    (ap (λ (t : List ℕ). t ++ y) (sym k) ∙ sym e ∙ f ∙ ap (λ (t : List ℕ). t ++ v) m) ∙ n)

spaced_message : (m : MessageParts) (b : List ℕ) → (Only (32 ∷ []) ⋅ Message m) b
    → (t : List ℕ) × (b ≡ 32 ∷ t) × Message m t
spaced_message m b (x, y, e, h, k) = (y, e ∙ ap (λ (t : List ℕ). t ++ y) h, k)

pub tail_same : (m n : MessageParts) (b : List ℕ) → MessagePart m b → MessagePart n b → m ≡ n
tail_same m n b (inl (e, f)) (inl (g, h)) = e ∙ sym g
tail_same m n b (inl (e, f)) (inr k) = let r = spaced_message n b k in let i : ◌≡◌ {A = List ℕ} [] (32 ∷ r.0) =
    sym f ∙ r.1 in absurd cc
tail_same m n b (inr k) (inl (e, f)) = let r = spaced_message m b k in let i : ◌≡◌ {A = List ℕ} [] (32 ∷ r.0) =
    sym f ∙ r.1 in absurd cc
tail_same m n b (inr k) (inr l) =
    let r = spaced_message m b k in let q = spaced_message n b l in
    message_same m n q.0 (subst (Message m) (tails 32 32 r.0 q.0 (sym r.1 ∙ q.1)) r.2) q.2

pub tail_prefix : (m : MessageParts) (b : List ℕ) → MessagePart m b → IfFirst (λ x. x ≢ 91) b
tail_prefix m b (inl (e, f)) = rw f tt
tail_prefix m b (inr k) = let r = spaced_message m b k in rw r.1 (λ e. omega (arith, e))
