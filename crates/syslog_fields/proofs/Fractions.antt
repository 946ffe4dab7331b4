-- The digits after the point, and the zone after them.
use Rattle.std.proofs.Common.{◌≡◌, ◌≢◌, ℕ, zero, suc, ◌+◌, ◌-◌, ◌*◌, ◌/◌, ◌%◌, ◌<◌, ◌≤◌, List, [], ◌∷◌, ◌++◌, length}
use Rattle.std.proofs.Common.{get_or, refl, sym, ap, subst, ◌∙◌, arith, inl, inr, ◌⊎◌}
use Rattle.std.specs.Prelude.{replicate, ℤ, pos, neg_ℤ, Some, None}
use Rattle.std.specs.List.{AllByRecursion}
use Rattle.std.proofs.lemmas.Bool.{cases_eq}
use Rattle.octet_language.specs.Digits.{IsDigit, read_on}
use Rattle.octet_language.specs.Language.{Language, Only, ◌⋅◌, AnyOf, IsPrefixFree, IfFirst}
use Rattle.octet_language.specs.Reading.{Fails, Follows}
use Rattle.octet_language.proofs.Lists.{heads, tails, same_prefix}
use Rattle.octet_language.proofs.Chain.{Fails-first, Fails-later, Fails-same, Follows-then, IsPrefixFree-only}
use Rattle.octet_language.proofs.Chain.{IsPrefixFree-same}
use Rattle.octet_language.proofs.Sequence.{IsPrefixFree-then}
use Rattle.syslog_value.specs.declared.civil.Civil.{Civil}
use Rattle.syslog_fields.specs.Dates.{Date, Clock, FractionZone}
use Rattle.syslog_fields.specs.Grammar.{Nilable, Spaced}
use Rattle.syslog_fields.specs.Spans.{StopsInRun}
use Rattle.syslog_fields.specs.Time.{CivilTime, padded, Decimals, FractionText, OffsetText, ZoneText, TimeText}
use Rattle.syslog_fields.proofs.Ahead.{StartsIn, OneAhead, same_run, Fails-ahead, IsPrefixFree-ahead}
use Rattle.syslog_fields.proofs.Classes.{Ends, AreRuns, OneAhead-runs, Fails-run}
use Rattle.syslog_fields.proofs.Prefix.{Fails-behind, Fails-alike, Fails-prefix}
use Rattle.syslog_fields.proofs.Loops.{Fails-empty}
use Rattle.syslog_fields.proofs.Separated.{Delimited, bad_first, bad_middle, bad_second, IsPrefixFree-between}
use Rattle.syslog_fields.proofs.Times.{IsPrefixFree-date, IsPrefixFree-clock, offset_length}

digit_value : (ds : List ℕ) (i : ℕ) → AllByRecursion IsDigit ds → i < length ds → IsDigit (get_or ds i 0)
digit_value [] i h l = absurd (omega arith)
digit_value (x ∷ ds) zero h l = h.0
digit_value (x ∷ ds) (suc i) h l = digit_value ds i h.1 (omega arith)

pub digit_here : (ds : List ℕ) (i : ℕ) → AllByRecursion IsDigit ds → i < length ds
    → (48 ≤ get_or ds i 0) × (get_or ds i 0 ≤ 57)
digit_here ds i h l = digit_value ds i h l

pub none_here : (ds : List ℕ) (i : ℕ) → length ds ≤ i → get_or ds i 0 ≡ 0
none_here [] i l = refl
none_here (x ∷ ds) zero l = absurd (omega arith)
none_here (x ∷ ds) (suc i) l = none_here ds i (omega arith)

-- six digits by their offsets
pub six_digits : (ds : List ℕ) → length ds ≤ 6
    → 100000 * (get_or ds 0 0 - 48) + 10000 * (get_or ds 1 0 - 48) + 1000 * (get_or ds 2 0 - 48) + 100
    * (get_or ds 3 0 - 48) + 10 * (get_or ds 4 0 - 48) + (get_or ds 5 0 - 48)
    ≡ read_on 0 (ds ++ replicate (6 - length ds) 48)
six_digits [] h = omega arith
six_digits (a ∷ []) h = omega arith
six_digits (a ∷ b ∷ []) h = omega arith
six_digits (a ∷ b ∷ c ∷ []) h = omega arith
six_digits (a ∷ b ∷ c ∷ d ∷ []) h = omega arith
six_digits (a ∷ b ∷ c ∷ d ∷ e ∷ []) h = omega arith
six_digits (a ∷ b ∷ c ∷ d ∷ e ∷ f ∷ []) h = omega arith
six_digits (a ∷ b ∷ c ∷ d ∷ e ∷ f ∷ g ∷ ds) h = absurd (omega arith)

-- ---- the zone

abbrev pub AnyZone : Language
AnyZone = AnyOf ZoneText

pub utc : AnyZone (90 ∷ [])
utc = (pos 0, inl (refl, refl))

-- a text of a zone by its first octet
pub zone_cases : (s : List ℕ) → AnyZone s → (s ≡ 90 ∷ [])
    ⊎ ((t : List ℕ) × AnyOf OffsetText t × ((s ≡ 43 ∷ t) ⊎ (s ≡ 45 ∷ t)))
zone_cases s (o, inl (e, f)) = inl f
zone_cases s (o, inr (m, inl (e, (x, y, f, h, k)))) = inr (y, (m, k), inl (f ∙ ap (λ (u : List ℕ). u ++ y) h))
zone_cases s (o, inr (m, inr (e, (x, y, f, h, k)))) = inr (y, (m, k), inr (f ∙ ap (λ (u : List ℕ). u ++ y) h))

pub zone_some : ¬ (AnyZone [])
zone_some h = elim (zone_cases [] h) [ inl e ↦ absurd cc | inr k ↦ elim k.2 [ inl e ↦ absurd cc | inr e ↦ absurd cc ] ]

-- the octets with which a zone begins
abbrev pub IsSign : ℕ → Type 0
IsSign x = (x ≡ 90) ⊎ ((x ≡ 43) ⊎ (x ≡ 45))

pub zone_prefix : (x : ℕ) (s : List ℕ) → AnyZone (x ∷ s) → IsSign x
zone_prefix x s h = elim (zone_cases (x ∷ s) h) [
  | inl e ↦ inl (heads x 90 s [] e)
  | inr k ↦ elim k.2 [ inl e ↦ inr (inl (heads x 43 s k.0 e)) | inr e ↦ inr (inr (heads x 45 s k.0 e)) ]
]

pub no_zone : (b : List ℕ) → IfFirst (λ x. ¬ (IsSign x)) b → Fails AnyZone b (length b)
no_zone [] h = Fails-empty AnyZone [] (90 ∷ []) utc zone_some refl
no_zone (x ∷ b) h = Fails-prefix AnyZone (x ∷ b) (90 ∷ []) utc zone_some (λ s k. h (zone_prefix x s k))

plus_from : (s : List ℕ) → AnyZone (43 ∷ s) → AnyOf OffsetText s
plus_from s h = elim (zone_cases (43 ∷ s) h) [
  | inl e ↦ let k : 43 ≡ 90 = heads 43 90 s [] e in absurd (omega (arith, k))
  | inr k ↦ elim k.2 [
    | inl e ↦ subst (AnyOf OffsetText) (sym (tails 43 43 s k.0 e)) k.1
    | inr e ↦ let f : 43 ≡ 45 = heads 43 45 s k.0 e in absurd (omega (arith, f))
  ]
]

plus_to : (s : List ℕ) → AnyOf OffsetText s → AnyZone (43 ∷ s)
plus_to s (m, h) = (pos m, inr (m, inl (refl, (43 ∷ [], s, refl, refl, h))))

minus_from : (s : List ℕ) → AnyZone (45 ∷ s) → AnyOf OffsetText s
minus_from s h = elim (zone_cases (45 ∷ s) h) [
  | inl e ↦ let k : 45 ≡ 90 = heads 45 90 s [] e in absurd (omega (arith, k))
  | inr k ↦ elim k.2 [
    | inl e ↦ let f : 45 ≡ 43 = heads 45 43 s k.0 e in absurd (omega (arith, f))
    | inr e ↦ subst (AnyOf OffsetText) (sym (tails 45 45 s k.0 e)) k.1
  ]
]

minus_to : (s : List ℕ) → AnyOf OffsetText s → AnyZone (45 ∷ s)
minus_to s (m, h) = (neg_ℤ (pos m), inr (m, inr (refl, (45 ∷ [], s, refl, refl, h))))

pub bad_plus : (b rest : List ℕ) (x remaining : ℕ) → b ≡ x ∷ rest → x ≡ 43 → Fails (AnyOf OffsetText) rest remaining
    → Fails AnyZone b remaining
bad_plus b rest x remaining e f g = Fails-behind (AnyOf OffsetText) AnyZone 43 b rest remaining plus_from plus_to
    zone_some (e ∙ ap (λ (n : ℕ). n ∷ rest) f) g

pub bad_minus : (b rest : List ℕ) (x remaining : ℕ) → b ≡ x ∷ rest → x ≡ 45 → Fails (AnyOf OffsetText) rest remaining
    → Fails AnyZone b remaining
bad_minus b rest x remaining e f g = Fails-behind (AnyOf OffsetText) AnyZone 45 b rest remaining minus_from minus_to
    zone_some (e ∙ ap (λ (n : ℕ). n ∷ rest) f) g

pub zone_utc : (b rest : List ℕ) (x : ℕ) → b ≡ x ∷ rest → x ≡ 90 → Follows (ZoneText (pos 0)) b rest
zone_utc b rest x e f = (90 ∷ [], e ∙ ap (λ (n : ℕ). n ∷ rest) f, inl (refl, refl))

pub zone_plus : (b rest after : List ℕ) (x m : ℕ) (o : ℤ) → b ≡ x ∷ rest → x ≡ 43 → o ≡ pos m
    → Follows (OffsetText m) rest after → Follows (ZoneText o) b after
zone_plus b rest after x m o e f i g = (
  43 ∷ g.0,
  e ∙ ap (λ (n : ℕ). n ∷ rest) f
      ∙ ap (λ (u : List ℕ). 43 ∷ u) g.1,
  inr (m, inl (i, (43 ∷ [], g.0, refl, refl, g.2))),
)

pub zone_minus : (b rest after : List ℕ) (x m : ℕ) (o : ℤ) → b ≡ x ∷ rest → x ≡ 45 → o ≡ neg_ℤ (pos m)
    → Follows (OffsetText m) rest after → Follows (ZoneText o) b after
zone_minus b rest after x m o e f i g = (
  45 ∷ g.0,
  e ∙ ap (λ (n : ℕ). n ∷ rest) f
      ∙ ap (λ (u : List ℕ). 45 ∷ u) g.1,
  inr (m, inr (i, (45 ∷ [], g.0, refl, refl, g.2))),
)

-- how long a zone is, by its first octet
zone_length : (x : ℕ) (s : List ℕ) → AnyZone (x ∷ s) → (x ≡ 90 → length s ≡ 0) × (x ≢ 90 → length s ≡ 5)
zone_length x s h = elim (zone_cases (x ∷ s) h) [
  | inl e ↦ (λ k. ap length (tails x 90 s [] e), λ k. absurd (k (heads x 90 s [] e)))
  | inr k ↦ elim k.2 [
    | inl e ↦ (
      λ f. absurd (omega (arith, f, heads x 43 s k.0 e)),
      λ f. ap length (tails x 43 s k.0 e)
          ∙ offset_length k.0 k.1,
    )
    | inr e ↦ (
      λ f. absurd (omega (arith, f, heads x 45 s k.0 e)),
      λ f. ap length (tails x 45 s k.0 e)
          ∙ offset_length k.0 k.1,
    )
  ]
]

pub IsPrefixFree-zone : IsPrefixFree AnyZone
IsPrefixFree-zone [] s q t h k e = absurd (zone_some h)
IsPrefixFree-zone (x ∷ p) s [] t h k e = absurd (zone_some k)
IsPrefixFree-zone (x ∷ p) s (y ∷ q) t h k e =
    let same = heads x y (p ++ s) (q ++ t) e in
    let a = zone_length x p h in
    let b = zone_length y q k in
    same_prefix (x ∷ p) (y ∷ q) s t
    (elim (cases_eq x 90) [
      | inl f ↦ omega (arith, a.0 f, b.0 (sym same ∙ f))
      | inr f ↦ omega (arith, a.1 f, b.1 (λ g. f (same ∙ g)))
    ]) e

sign_apart : (x : ℕ) → IsSign x → Ends IsDigit x × (x ≢ 46)
sign_apart x (inl e) = (λ d. omega (arith, e, d.1), λ f. omega (arith, e, f))
sign_apart x (inr (inl e)) = (λ d. omega (arith, e, d.0), λ f. omega (arith, e, f))
sign_apart x (inr (inr e)) = (λ d. omega (arith, e, d.0), λ f. omega (arith, e, f))

zone_cons : (s : List ℕ) → AnyZone s → (x : ℕ) × (t : List ℕ) × (s ≡ x ∷ t) × IsSign x
zone_cons [] h = absurd (zone_some h)
zone_cons (x ∷ t) h = (x, t, refl, zone_prefix x t h)

pub zone_starts : StartsIn (Ends IsDigit) AnyZone
zone_starts s h = let k = zone_cons s h in (k.0, k.1, k.2, (sign_apart k.0 k.3).0)

-- ---- the fraction

abbrev pub Fraction : Language
Fraction = AnyOf FractionText

abbrev pub AnyDecimals : Language
AnyDecimals = AnyOf Decimals

pub decimals_runs : AreRuns IsDigit 6 AnyDecimals
decimals_runs = record {
  to = λ b (m, (l, h, d, e)). record { some = omega arith; fits = h; octets = d };
  from = λ b h. (read_on 0 (b ++ replicate (6 - length b) 48), (omega (arith, h.some), h.fits, h.octets, refl));
}

fraction_cases : (s : List ℕ) → Fraction s → (s ≡ []) ⊎ ((t : List ℕ) × (s ≡ 46 ∷ t) × AnyDecimals t)
fraction_cases s (m, inl (e, f)) = inl f
fraction_cases s (m, inr (x, y, e, h, k)) = inr (y, e ∙ ap (λ (u : List ℕ). u ++ y) h, (m, k))

-- what ends a fraction, or is at its offset
abbrev pub EndsFraction : ℕ → Type 0
EndsFraction x = Ends IsDigit x × (x ≢ 46)

IfFirst-weaker : (P Q : ℕ → Type 0) (s : List ℕ) → ((x : ℕ) → P x → Q x) → IfFirst P s → IfFirst Q s
IfFirst-weaker P Q [] w h = tt
IfFirst-weaker P Q (x ∷ s) w h = w x h

no_point : (s t : List ℕ) → IfFirst EndsFraction s → s ≡ 46 ∷ t → ⊥
no_point [] t h e = absurd cc
no_point (x ∷ s) t h e = h.1 (heads x 46 s t e)

OneAhead-fraction : OneAhead Fraction EndsFraction
OneAhead-fraction p s q t h k u v e = elim (fraction_cases p h) [
  | inl a ↦ elim (fraction_cases q k) [
    | inl b ↦ a ∙ sym b
    | inr b ↦ absurd (no_point s (b.0 ++ t) u
        (ap (λ (w : List ℕ). w ++ s) (sym a) ∙ e ∙ ap (λ (w : List ℕ). w ++ t) b.1))
  ]
  | inr a ↦ elim (fraction_cases q k) [
    | inl b ↦ absurd (no_point t (a.0 ++ s) v
        (ap (λ (w : List ℕ). w ++ t) (sym b) ∙ sym e ∙ ap (λ (w : List ℕ). w ++ s) a.1))
    | inr b ↦
        let rests : a.0 ++ s ≡ b.0 ++ t = tails 46 46 (a.0 ++ s) (b.0 ++ t)
        (ap (λ (w : List ℕ). w ++ s) (sym a.1) ∙ e ∙ ap (λ (w : List ℕ). w ++ t) b.1) in
        let same = same_run IsDigit a.0 b.0 s t (decimals_runs.to a.0 a.2).octets (decimals_runs.to b.0 b.2).octets
        (IfFirst-weaker EndsFraction (Ends IsDigit) s (λ x n. n.0) u)
        (IfFirst-weaker EndsFraction (Ends IsDigit) t (λ x n. n.0) v) rests in
        a.1 ∙ ap (λ (w : List ℕ). 46 ∷ w) same ∙ sym b.1
  ]
]

zone_starts_fraction : StartsIn EndsFraction AnyZone
zone_starts_fraction s h = let k = zone_cons s h in (k.0, k.1, k.2, sign_apart k.0 k.3)

abbrev pub AnyFraction : Language
AnyFraction = AnyOf FractionZone

pub IsPrefixFree-fraction : IsPrefixFree AnyFraction
IsPrefixFree-fraction =
    IsPrefixFree-same (Fraction ⋅ AnyZone) AnyFraction
    (λ s (f, (x, y, e, h, k)). (x, y, e, (f.0, h), (f.1, k)))
    (IsPrefixFree-ahead Fraction AnyZone EndsFraction OneAhead-fraction zone_starts_fraction IsPrefixFree-zone)

pub only_utc : AnyFraction (90 ∷ [])
only_utc = ((0, pos 0), ([], 90 ∷ [], refl, inl (refl, refl), inl (refl, refl)))

pub fraction_some : ¬ (AnyFraction [])
fraction_some (f, ([], y, e, h, k)) = zone_some (f.1, subst (ZoneText f.1) (sym e) k)
fraction_some (f, (x ∷ z, y, e, h, k)) = absurd cc

abbrev Point : Language
Point = AnyDecimals ⋅ AnyZone

point_from : (s : List ℕ) → AnyFraction (46 ∷ s) → Point s
point_from s (f, (x, y, e, h, k)) = elim (fraction_cases x (f.0, h)) [
  | inl a ↦ absurd ((sign_apart 46 (zone_prefix 46 s
      (f.1, subst (ZoneText f.1) (sym (e ∙ ap (λ (u : List ℕ). u ++ y) a)) k))).1 refl)
  | inr a ↦ (a.0, y, tails 46 46 s (a.0 ++ y) (e ∙ ap (λ (u : List ℕ). u ++ y) a.1), a.2, (f.1, k))
]

point_to : (s : List ℕ) → Point s → AnyFraction (46 ∷ s)
point_to s (x, y, e, (m, h), (o, k)) = (
  (m, o),
  (46 ∷ x, y, ap (λ (u : List ℕ). 46 ∷ u) e, inr (46 ∷ [], x, refl, refl, h), k),
)

pub bad_decimals : (b rest : List ℕ) (x remaining : ℕ) → b ≡ x ∷ rest → x ≡ 46 → StopsInRun IsDigit 6 rest remaining
    → Fails AnyFraction b remaining
bad_decimals b rest x remaining e f g =
    Fails-behind Point AnyFraction 46 b rest remaining point_from point_to fraction_some
    (e ∙ ap (λ (n : ℕ). n ∷ rest) f)
    (Fails-run IsDigit 6 48 AnyDecimals AnyZone rest (90 ∷ []) remaining decimals_runs (omega arith)
    (omega arith, omega arith) utc IsPrefixFree-zone zone_starts g)

pub bad_zone : (b rest after : List ℕ) (x m remaining : ℕ) → b ≡ x ∷ rest → x ≡ 46
    → Follows (Decimals m) rest after × IfFirst (Ends IsDigit) after → Fails AnyZone after remaining
    → Fails AnyFraction b remaining
bad_zone b rest after x m remaining e f g h =
    Fails-behind Point AnyFraction 46 b rest remaining point_from point_to fraction_some
    (e ∙ ap (λ (n : ℕ). n ∷ rest) f)
    (Fails-ahead AnyDecimals AnyZone (Ends IsDigit) rest after remaining
    (OneAhead-runs IsDigit 6 AnyDecimals decimals_runs) zone_starts (g.0.0, g.0.1, (m, g.0.2)) g.1 h)

alone_from : (x : ℕ) (s : List ℕ) → x ≢ 46 → AnyFraction (x ∷ s) → AnyZone (x ∷ s)
alone_from x s ne (f, (y, z, e, h, k)) = elim (fraction_cases y (f.0, h)) [
  | inl a ↦ (f.1, subst (ZoneText f.1) (sym (e ∙ ap (λ (u : List ℕ). u ++ z) a)) k)
  | inr a ↦ absurd (ne (heads x 46 s (a.0 ++ z) (e ∙ ap (λ (u : List ℕ). u ++ z) a.1)))
]

alone_to : (s : List ℕ) → AnyZone s → AnyFraction s
alone_to s (o, h) = ((0, o), ([], s, refl, inl (refl, refl), h))

pub bad_alone : (b rest : List ℕ) (x remaining : ℕ) → b ≡ x ∷ rest → x ≢ 46 → Fails AnyZone b remaining
    → Fails AnyFraction b remaining
bad_alone b rest x remaining e ne f = Fails-alike AnyZone AnyFraction x b rest (90 ∷ []) remaining
    (λ s h. alone_from x s ne h) (λ s h. alone_to (x ∷ s) h) zone_some fraction_some only_utc e f

pub point_read : (b rest after end : List ℕ) (x m : ℕ) (o o' : ℤ) → o' ≡ o → b ≡ x ∷ rest → x ≡ 46
    → Follows (Decimals m) rest after → Follows (ZoneText o) after end → Follows (FractionZone (m, o')) b end
point_read b rest after end x m o o' i e f g h' =
    let h = subst (λ (z : ℤ). Follows (ZoneText z) after end) (sym i) h' in
    Follows-then (FractionText m) (ZoneText o') b after end (
      46 ∷ g.0,
      e ∙ ap (λ (n : ℕ). n ∷ rest) f
          ∙ ap (λ (u : List ℕ). 46 ∷ u) g.1,
      inr (46 ∷ [], g.0, refl, refl, g.2),
    ) h

pub alone_read : (b end : List ℕ) (o o' : ℤ) → o' ≡ o → Follows (ZoneText o) b end
    → Follows (FractionZone (0, o')) b end
alone_read b end o o' i h = Follows-then (FractionText 0) (ZoneText o') b b end ([], refl, inl (refl, refl))
    (subst (λ (z : ℤ). Follows (ZoneText z) b end) (sym i) h)

-- ---- the whole time

abbrev ClockZone : Language
ClockZone = AnyOf Clock ⋅ AnyFraction

abbrev pub Times : Language
Times = Delimited (AnyOf Date) 84 ClockZone

abbrev civil_of : ℕ × ℕ × ℕ → ℕ × ℕ × ℕ → ℕ → Civil
civil_of d c m = record { year = d.0; month = d.1; day = d.2; hour = c.0; minute = c.1; second = c.2; micros = m }

times_time : (s : List ℕ) → Times s → AnyOf TimeText s
times_time s (x, y, e, (d, h), (z, w, f, k, (u, v, g, (c, l), (fz, (a, b, i, m, n))))) =
    (record { civil = civil_of d c fz.0; offset = fz.1 }, (x, y, e, h, (z, w, f, k, (u, v, g, l, (a, b, i, m, n)))))

time_times : (s : List ℕ) → AnyOf TimeText s → Times s
time_times s (t, (x, y, e, h, (z, w, f, k, (u, v, g, l, (a, b, i, m, n))))) =
    let o = t.civil in (
      x,
      y,
      e,
      ((o.year, o.month, o.day), h),
      (
        z,
        w,
        f,
        k,
        (u, v, g, ((o.hour, o.minute, o.second), l), ((o.micros, t.offset), (a, b, i, m, n))),
      ),
    )

as_time : (b : List ℕ) (remaining : ℕ) → Fails Times b remaining → Fails (AnyOf TimeText) b remaining
as_time b remaining f = Fails-same Times (AnyOf TimeText) b remaining times_time time_times f

midnight : AnyOf Clock (padded 2 0 ++ 58 ∷ padded 2 0 ++ 58 ∷ padded 2 0)
midnight = (
  (0, 0, 0),
  (
    padded 2 0,
    58 ∷ padded 2 0 ++ 58 ∷ padded 2 0,
    refl,
    (omega arith, omega arith, refl),
    (
      58 ∷ [],
      padded 2 0 ++ 58 ∷ padded 2 0,
      refl,
      refl,
      (
        padded 2 0,
        58 ∷ padded 2 0,
        refl,
        (omega arith, omega arith, refl),
        (58 ∷ [], padded 2 0, refl, refl, (omega arith, omega arith, refl)),
      ),
    ),
  ),
)

some_clock : ClockZone ((padded 2 0 ++ 58 ∷ padded 2 0 ++ 58 ∷ padded 2 0) ++ 90 ∷ [])
some_clock = (padded 2 0 ++ 58 ∷ padded 2 0 ++ 58 ∷ padded 2 0, 90 ∷ [], refl, midnight, only_utc)

pub bad_date : (b : List ℕ) (remaining : ℕ) → Fails (AnyOf Date) b remaining → Fails (AnyOf TimeText) b remaining
bad_date b remaining f = as_time b remaining (bad_first (AnyOf Date) ClockZone 84 b _ remaining some_clock f)

pub bad_octet : (b rest : List ℕ) (d : ℕ × ℕ × ℕ) (remaining : ℕ) → Follows (Date d) b rest
    → Fails (Only (84 ∷ [])) rest remaining → Fails (AnyOf TimeText) b remaining
bad_octet b rest d remaining g f = as_time b remaining
    (bad_middle (AnyOf Date) ClockZone 84 b rest _ remaining IsPrefixFree-date some_clock (g.0, g.1, (d, g.2)) f)

pub bad_clock : (b rest after : List ℕ) (d : ℕ × ℕ × ℕ) (remaining : ℕ) → Follows (Date d) b rest
    → Follows (Only (84 ∷ [])) rest after → Fails (AnyOf Clock) after remaining → Fails (AnyOf TimeText) b remaining
bad_clock b rest after d remaining g h f =
    as_time b remaining (bad_second (AnyOf Date) ClockZone 84 b rest after remaining IsPrefixFree-date
    (g.0, g.1, (d, g.2)) h (Fails-first (AnyOf Clock) AnyFraction after (90 ∷ []) remaining only_utc f))

pub bad_fraction : (b rest after end : List ℕ) (d c : ℕ × ℕ × ℕ) (remaining : ℕ) → Follows (Date d) b rest
    → Follows (Only (84 ∷ [])) rest after → Follows (Clock c) after end → Fails AnyFraction end remaining
    → Fails (AnyOf TimeText) b remaining
bad_fraction b rest after end d c remaining g h i f =
    as_time b remaining (bad_second (AnyOf Date) ClockZone 84 b rest after remaining IsPrefixFree-date
    (g.0, g.1, (d, g.2)) h (Fails-later (AnyOf Clock) AnyFraction after end remaining IsPrefixFree-clock
    (i.0, i.1, (c, i.2)) f))

pub time_read : (b rest after end last : List ℕ) (d c : ℕ × ℕ × ℕ) (m : ℕ) (o o' : ℤ) → o' ≡ o → Follows (Date d) b rest
    → Follows (Only (84 ∷ [])) rest after → Follows (Clock c) after end → Follows (FractionZone (m, o)) end last
    → Follows (TimeText (record { civil = civil_of d c m; offset = o' })) b last
time_read b rest after end last d c m o o' same g h i j' =
    let f : ℕ × ℤ = (m, o') in
    let j = subst (λ (z : ℤ). Follows (FractionZone (m, z)) end last) (sym same) j' in
    Follows-then (Date d) (Only (84 ∷ []) ⋅ (Clock c ⋅ FractionZone f)) b rest last g
    (Follows-then (Only (84 ∷ [])) (Clock c ⋅ FractionZone f) rest after last h
    (Follows-then (Clock c) (FractionZone f) after end last i j))

pub IsPrefixFree-time : IsPrefixFree (AnyOf TimeText)
IsPrefixFree-time = IsPrefixFree-same Times (AnyOf TimeText) time_times
    (IsPrefixFree-between (AnyOf Date) ClockZone 84 IsPrefixFree-date
    (IsPrefixFree-then (AnyOf Clock) AnyFraction IsPrefixFree-clock IsPrefixFree-fraction))

-- ---- a time or NILVALUE

abbrev pub AnyTime : Language
AnyTime = AnyOf (λ t. Spaced (Nilable TimeText t))

-- a time begins with a digit
time_digit : (t : CivilTime) (s : List ℕ) → TimeText t s → (x : ℕ) × (r : List ℕ) × (s ≡ x ∷ r) × (48 ≤ x)
time_digit t s (p, y, e, (a, c, f, (l, h), k), m) = (
  48 + t.civil.year / 10 / 10 / 10 % 10,
  _,
  e
      ∙ ap (λ (u : List ℕ). u ++ y) (f ∙ ap (λ (u : List ℕ). u ++ c) h),
  omega arith,
)

nil_from : (s : List ℕ) → AnyTime (45 ∷ s) → Only (32 ∷ []) s
nil_from s (None, (x, y, e, h, k)) = tails 45 45 s y (e ∙ ap (λ (u : List ℕ). u ++ y) h) ∙ k
nil_from s (Some t, (x, y, e, h, k)) =
    let d = time_digit t x h in
    let same : 45 ≡ d.0 = heads 45 d.0 s (d.1 ++ y) (e ∙ ap (λ (u : List ℕ). u ++ y) d.2) in
    absurd (omega (arith, same, d.3))

nil_to : (s : List ℕ) → Only (32 ∷ []) s → AnyTime (45 ∷ s)
nil_to s e = (None, (45 ∷ [], s, refl, refl, e))

pub nil_time : AnyTime (45 ∷ 32 ∷ [])
nil_time = nil_to (32 ∷ []) refl

pub nilable_some : ¬ (AnyTime [])
nilable_some (None, (x, y, e, h, k)) = let f : [] ≡ 45 ∷ y = e ∙ ap (λ (u : List ℕ). u ++ y) h in absurd cc
nilable_some (Some t, ([], y, e, h, k)) = let f : ◌≡◌ {A = List ℕ} [] (32 ∷ []) = e ∙ k in absurd cc
nilable_some (Some t, (x ∷ z, y, e, h, k)) = absurd cc

pub bad_nil : (b rest : List ℕ) (x remaining : ℕ) → b ≡ x ∷ rest → x ≡ 45 → Fails (Only (32 ∷ [])) rest remaining
    → Fails AnyTime b remaining
bad_nil b rest x remaining e f g = Fails-behind (Only (32 ∷ [])) AnyTime 45 b rest remaining nil_from nil_to
    nilable_some (e ∙ ap (λ (n : ℕ). n ∷ rest) f) g

abbrev SpacedTime : Language
SpacedTime = AnyOf TimeText ⋅ Only (32 ∷ [])

spaced_some : ¬ (SpacedTime [])
spaced_some ([], y, e, h, k) = let f : ◌≡◌ {A = List ℕ} [] (32 ∷ []) = e ∙ k in absurd cc
spaced_some (x ∷ z, y, e, h, k) = absurd cc

some_from : (x : ℕ) (s : List ℕ) → x ≢ 45 → AnyTime (x ∷ s) → SpacedTime (x ∷ s)
some_from x s ne (None, (y, z, e, h, k)) = absurd (ne (heads x 45 s z (e ∙ ap (λ (u : List ℕ). u ++ z) h)))
some_from x s ne (Some t, (y, z, e, h, k)) = (y, z, e, (t, h), k)

some_to : (s : List ℕ) → SpacedTime s → AnyTime s
some_to s (y, z, e, (t, h), k) = (Some t, (y, z, e, h, k))

as_some : (b rest : List ℕ) (x remaining : ℕ) → b ≡ x ∷ rest → x ≢ 45 → Fails SpacedTime b remaining
    → Fails AnyTime b remaining
as_some b rest x remaining e ne f = Fails-alike SpacedTime AnyTime x b rest (45 ∷ 32 ∷ []) remaining
    (λ s h. some_from x s ne h) (λ s h. some_to (x ∷ s) h) spaced_some nilable_some nil_time e f

pub bad_time : (b rest : List ℕ) (x remaining : ℕ) → b ≡ x ∷ rest → x ≢ 45 → Fails (AnyOf TimeText) b remaining
    → Fails AnyTime b remaining
bad_time b rest x remaining e ne f = as_some b rest x remaining e ne
    (Fails-first (AnyOf TimeText) (Only (32 ∷ [])) b (32 ∷ []) remaining refl f)

pub bad_space : (b rest after : List ℕ) (x remaining : ℕ) (t : CivilTime) → b ≡ x ∷ rest → x ≢ 45
    → Follows (TimeText t) b after → Fails (Only (32 ∷ [])) after remaining → Fails AnyTime b remaining
bad_space b rest after x remaining t e ne g f =
    as_some b rest x remaining e ne (Fails-later (AnyOf TimeText) (Only (32 ∷ [])) b after remaining IsPrefixFree-time
    (g.0, g.1, (t, g.2)) f)

pub nil_read : (b rest after : List ℕ) (x : ℕ) → b ≡ x ∷ rest → x ≡ 45 → Follows (Only (32 ∷ [])) rest after
    → Follows (Spaced (Nilable TimeText None)) b after
nil_read b rest after x e f g = Follows-then (Only (45 ∷ [])) (Only (32 ∷ [])) b rest after
    (45 ∷ [], e ∙ ap (λ (n : ℕ). n ∷ rest) f, refl) g

pub some_read : (b rest after : List ℕ) (t : CivilTime) → Follows (TimeText t) b rest
    → Follows (Only (32 ∷ [])) rest after → Follows (Spaced (Nilable TimeText (Some t))) b after
some_read b rest after t f g = Follows-then (TimeText t) (Only (32 ∷ [])) b rest after f g

time_free : (s : List ℕ) → AnyTime s → SpacedTime s ⊎ (s ≡ 45 ∷ 32 ∷ [])
time_free s (None, (x, y, e, h, k)) = inr (e ∙ ap (λ (u : List ℕ). u ++ y) h ∙ ap (λ (u : List ℕ). 45 ∷ u) k)
time_free s (Some t, (x, y, e, h, k)) = inl (x, y, e, (t, h), k)

IsPrefixFree-spaced_time : IsPrefixFree SpacedTime
IsPrefixFree-spaced_time = IsPrefixFree-then (AnyOf TimeText) (Only (32 ∷ [])) IsPrefixFree-time
    (IsPrefixFree-only (32 ∷ []))

spaced_digit : (s t r : List ℕ) → SpacedTime s → s ++ t ≡ 45 ∷ r → ⊥
spaced_digit s t r (x, y, e, (v, h), k) f =
    let d = time_digit v x h in
    let same : d.0 ≡ 45 = heads d.0 45 ((d.1 ++ y) ++ t) r
    (ap (λ (u : List ℕ). (u ++ y) ++ t) (sym d.2) ∙ ap (λ (u : List ℕ). u ++ t) (sym e) ∙ f) in
    omega (arith, same, d.3)

pub IsPrefixFree-nilable_time : IsPrefixFree AnyTime
IsPrefixFree-nilable_time p s q t h k e = elim (time_free p h) [
  | inl a ↦ elim (time_free q k) [
    | inl b ↦ IsPrefixFree-spaced_time p s q t a b e
    | inr b ↦ absurd (spaced_digit p s (32 ∷ t) a (e ∙ ap (λ (u : List ℕ). u ++ t) b))
  ]
  | inr a ↦ elim (time_free q k) [
    | inl b ↦ absurd (spaced_digit q t (32 ∷ s) b (sym e ∙ ap (λ (u : List ℕ). u ++ s) a))
    | inr b ↦ a ∙ sym b
  ]
]
