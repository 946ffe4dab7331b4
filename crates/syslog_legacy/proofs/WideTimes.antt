-- A timestamp of the wide dialect, part by part: octets begin with one at most.
use Rattle.std.proofs.Common.{◌≡◌, ◌≢◌, ℕ, List, [], ◌∷◌, refl, sym, ap, subst}
use Rattle.std.proofs.Common.{◌∙◌, inl, inr, arith, ℤ}
use Rattle.octet_language.specs.Digits.{IsDigit}
use Rattle.octet_language.specs.Language.{Only, ◌⋅◌, AnyOf, IfFirst, IsPrefixFree, NoPrefix}
use Rattle.octet_language.specs.Reading.{Follows}
use Rattle.octet_language.proofs.Chain.{IsPrefixFree-only, IsPrefixFree-same}
use Rattle.octet_language.proofs.Lists.{heads, tails}
use Rattle.octet_language.proofs.Sequence.{IsPrefixFree-then}
use Rattle.syslog_value.specs.declared.civil.Civil.{Civil}
use Rattle.syslog_value.specs.Instants.{instant_of}
use Rattle.syslog_fields.specs.Dates.{Clock}
use Rattle.syslog_fields.specs.Spans.{IsRun}
use Rattle.syslog_fields.specs.Time.{CivilTime, Decimals, TimeText, YearText}
use Rattle.syslog_fields.proofs.Fractions.{IsPrefixFree-time}
use Rattle.syslog_reading.proofs.OneMeaning.{time_same}
use Rattle.syslog_fields.proofs.Separated.{OneValue}
use Rattle.syslog_fields.proofs.Times.{IsPrefixFree-clock, IsPrefixFree-year, OneValue-year}
use Rattle.syslog_legacy.specs.declared.clock.LegacyClock.{LegacyClock}
use Rattle.syslog_legacy.specs.Hosts.{SplitsRun}
use Rattle.syslog_legacy.specs.Parts.{Optional, Part, Without}
use Rattle.syslog_legacy.specs.WideTimes.{BehindMark, ClockTime, DayFirst, MonthDay, NamedDate, NamedTime, OwnTime}
use Rattle.syslog_legacy.specs.WideTimes.{Point, SpacedYear, Stamp, WideTime, YearFirst}
use Rattle.syslog_legacy.proofs.Longest.{the_run}
use Rattle.syslog_legacy.proofs.Months.{IsPrefixFree-date, date_one}
use Rattle.syslog_legacy.proofs.Parts.{Ends, OnePart, all_ends, ends_on, follows_ends, follows_one}
use Rattle.syslog_legacy.proofs.Parts.{optional_one, without_ends, without_one}
use Rattle.syslog_legacy.proofs.Times.{clock_one}
use Rattle.syslog_value.proofs.CivilTimes.{same_fields}

-- ---- values of texts

pub OneValue-clock : OneValue Clock
OneValue-clock v w s h k =
    let same = clock_one v.0 v.1 v.2 w.0 w.1 w.2 s h k in
    three_same v.0 w.0 v.1 w.1 v.2 w.2 same.0 same.1 same.2
  where
    three_same : (a b c d e f : ℕ) → a ≡ b → c ≡ d → e ≡ f
        → (let p : ℕ × ℕ × ℕ = (a, c, e) in let q : ℕ × ℕ × ℕ = (b, d, f) in p ≡ q)
    three_same a b c d e f h k l = rw (h, k, l) refl

pub IsPrefixFree-spaced : IsPrefixFree (AnyOf SpacedYear)
IsPrefixFree-spaced =
    IsPrefixFree-same (AnyOf YearText ⋅ Only (32 ∷ [])) (AnyOf SpacedYear)
    (λ s (y, (u, v, e, h, k)). (u, v, e, (y, h), k))
    (IsPrefixFree-then (AnyOf YearText) (Only (32 ∷ [])) IsPrefixFree-year (IsPrefixFree-only (32 ∷ [])))

pub spaced_one : OnePart (λ y. Follows (SpacedYear y))
spaced_one = follows_one SpacedYear IsPrefixFree-spaced value
  where
    value : OneValue SpacedYear
    value v w s (x, y, e, h, k) (x', y', e', h', k') =
        let same : x ≡ x' = IsPrefixFree-year x y x' y' (v, h) (w, h') (sym e ∙ e') in
        OneValue-year v w x' (subst (YearText v) same h) h'

month_day_one : OnePart (λ d. Follows (MonthDay d))
month_day_one = follows_one MonthDay (IsPrefixFree-date 2000) (λ v w s h k. date_one 2000 v w s h k)

pub clock_part_one : OnePart (λ c. Follows (Clock c))
clock_part_one = follows_one Clock IsPrefixFree-clock OneValue-clock

pub own_one : OnePart (λ t. Follows (TimeText t))
own_one = follows_one TimeText IsPrefixFree-time (λ t u s h k. time_same t u s h k)

-- ---- the fraction

-- the digits behind a point are the run of digits there
pub point_run : (digits rest : List ℕ) (micros : ℕ) → Decimals micros digits → IfFirst (λ x. ¬ (IsDigit x)) rest
    → IsRun IsDigit 7 digits
point_run digits rest micros (some, fits, all, value) out =
    record { some = omega arith; fits = omega arith; octets = all }

pub point_one : OnePart Point
point_one b m n s t (i, e, (x, f, h), out) (j, e', (y, g, k), out') =
    let inside : i ≡ j = tails 46 46 i j (sym e ∙ e') in
    let split : SplitsRun IsDigit 7 i x s =
    record { parts = f; most = omega (arith, h.1); octets = h.2; ends = λ l. out } in
    let same = the_run IsDigit 7 i x s y t split (point_run y t n k out') out' (inside ∙ g) in
    (value (subst (Decimals n) same.0 k), sym same.1)
  where
    value : Decimals n x → m ≡ n
    value l = h.3 ∙ sym l.3

-- ---- times with the name of a month

three : (a b c d e f : ℕ) → a ≡ b → c ≡ d → e ≡ f
    → (let p : ℕ × ℕ × ℕ = (a, c, e) in let q : ℕ × ℕ × ℕ = (b, d, f) in p ≡ q)
three a b c d e f h k l = rw (h, k, l) refl

year_first_one : OnePart YearFirst
year_first_one b v w s t (x, h, i) (y, k, j) =
    let year = spaced_one b v.0 w.0 x y h k in
    let day = month_day_one y (v.1, v.2) (w.1, w.2) s t
    (subst (λ (u : List ℕ). Follows (MonthDay (v.1, v.2)) u s) year.1 i) j in
    (three v.0 w.0 v.1 w.1 v.2 w.2 year.0 (ap (λ (p : ℕ × ℕ). p.0) day.0) (ap (λ (p : ℕ × ℕ). p.1) day.0), day.1)

abbrev pub year_behind : ℕ → Part ℕ
year_behind year = Optional (λ y. Follows (SpacedYear y)) year

day_first_one : (year : ℕ) → OnePart (DayFirst year)
day_first_one year b v w s t (x, h, i) (y, k, j) =
    let day = month_day_one b (v.1, v.2) (w.1, w.2) x y h k in
    let own = optional_one (λ y. Follows (SpacedYear y)) year spaced_one y v.0 w.0 s t
    (subst (λ (u : List ℕ). year_behind year v.0 u s) day.1 i) j in
    (three v.0 w.0 v.1 w.1 v.2 w.2 own.0 (ap (λ (p : ℕ × ℕ). p.0) day.0) (ap (λ (p : ℕ × ℕ). p.1) day.0), own.1)

pub year_there : (d : ℕ × ℕ × ℕ) (b rest : List ℕ) → NoPrefix (AnyOf SpacedYear) b → ¬ (YearFirst d b rest)
year_there d b rest none (x, (y, e, h), k) = none y x e (d.0, h)

pub named_date_one : (year : ℕ) → OnePart (NamedDate year)
named_date_one year b v w s t (inl h) (inl k) = year_first_one b v w s t h k
named_date_one year b v w s t (inl h) (inr k) = absurd (year_there v b s k.0 h)
named_date_one year b v w s t (inr h) (inl k) = absurd (year_there w b t h.0 k)
named_date_one year b v w s t (inr h) (inr k) = day_first_one year b v w s t h.1 k.1

pub named_time_one : (year : ℕ) → OnePart (NamedTime year)
named_time_one year b c d s t (x, y, h, i, j) (x', y', h', i', j') =
    let date = named_date_one year b (c.year, c.month, c.day) (d.year, d.month, d.day) x x' h h' in
    let time = clock_part_one x' (c.hour, c.minute, c.second) (d.hour, d.minute, d.second) y y'
    (subst (λ (u : List ℕ). Follows (Clock (c.hour, c.minute, c.second)) u y) date.1 i) i' in
    let micros = optional_one Point 0 point_one y' c.micros d.micros s t
    (subst (λ (u : List ℕ). Optional Point 0 c.micros u s) time.1 j) j' in (
      same_fields c d (ap (λ (p : ℕ × ℕ × ℕ). p.0) date.0) (ap (λ (p : ℕ × ℕ × ℕ). p.1) date.0)
          (ap (λ (p : ℕ × ℕ × ℕ). p.2) date.0) (ap (λ (p : ℕ × ℕ × ℕ). p.0) time.0)
          (ap (λ (p : ℕ × ℕ × ℕ). p.1) time.0) (ap (λ (p : ℕ × ℕ × ℕ). p.2) time.0) micros.0,
      micros.1,
    )

-- ---- the whole

own_time_one : OnePart OwnTime
own_time_one b i j s t (v, h, n) (w, k, m) =
    let same = own_one b v w s t h k in
    (n.1 ∙ ap (λ (u : CivilTime). instant_of u.civil u.offset) same.0 ∙ sym m.1, same.1)

clock_time_one : (clock : LegacyClock) → OnePart (ClockTime clock)
clock_time_one clock b i j s t (v, h, n) (w, k, m) =
    let same = named_time_one clock.year b v w s t h k in
    (n.1 ∙ ap (λ (u : Civil). instant_of u clock.offset_minutes) same.0 ∙ sym m.1, same.1)

pub own_there : (i : ℤ) (b rest : List ℕ) → NoPrefix (AnyOf TimeText) b → ¬ (OwnTime i b rest)
own_there i b rest none (t, (x, e, h), n) = none x rest e (t, h)

pub stamp_one : (clock : LegacyClock) → OnePart (Stamp clock)
stamp_one clock b i j s t (inl h) (inl k) = own_time_one b i j s t h k
stamp_one clock b i j s t (inl h) (inr k) = absurd (own_there i b s k.0 h)
stamp_one clock b i j s t (inr h) (inl k) = absurd (own_there j b t h.0 k)
stamp_one clock b i j s t (inr h) (inr k) = clock_time_one clock b i j s t h.1 k.1

abbrev IsUnmarked : List ℕ → Type 0
IsUnmarked b = IfFirst (λ x. (x ≢ 42) × (x ≢ 46)) b

star : (b s : List ℕ) → IsUnmarked b → b ≡ 42 ∷ s → ⊥
star b s out e = let f : IsUnmarked (42 ∷ s) = subst IsUnmarked e out in f.0 refl

dot : (b s : List ℕ) → IsUnmarked b → b ≡ 46 ∷ s → ⊥
dot b s out e = let f : IsUnmarked (46 ∷ s) = subst IsUnmarked e out in f.1 refl

two_marks : (b s t : List ℕ) → b ≡ 42 ∷ s → b ≡ 46 ∷ t → ⊥
two_marks b s t e f = omega (arith, heads 42 46 s t (sym e ∙ f))

pub mark_one : (b s t : List ℕ) → BehindMark b s → BehindMark b t → s ≡ t
mark_one b s t (inl e) (inl f) = tails 42 42 s t (sym e ∙ f)
mark_one b s t (inl e) (inr (inl f)) = absurd (two_marks b s t e f)
mark_one b s t (inl e) (inr (inr f)) = absurd (star b s f.0 e)
mark_one b s t (inr (inl e)) (inl f) = absurd (two_marks b t s f e)
mark_one b s t (inr (inl e)) (inr (inl f)) = tails 46 46 s t (sym e ∙ f)
mark_one b s t (inr (inl e)) (inr (inr f)) = absurd (dot b s f.0 e)
mark_one b s t (inr (inr e)) (inl f) = absurd (star b t e.0 f)
mark_one b s t (inr (inr e)) (inr (inl f)) = absurd (dot b t e.0 f)
mark_one b s t (inr (inr e)) (inr (inr f)) = e.1 ∙ sym f.1

pub wide_time_one : (clock : LegacyClock) → OnePart (WideTime clock)
wide_time_one clock b i j s t (x, y, h, k, l) (x', y', h', k', l') =
    let mark : x ≡ x' = mark_one b x x' h h' in
    let stamp = stamp_one clock x' i j y y' (subst (λ (u : List ℕ). Stamp clock i u y) mark k) k' in
    let space = without_one 58 y' (32 ∷ s) (32 ∷ t) (subst (λ (u : List ℕ). Without 58 u (32 ∷ s)) stamp.1 l) l' in
    (stamp.0, tails 32 32 s t space)

-- ---- what follows it is the end of the octets

mark_ends : (b rest : List ℕ) → BehindMark b rest → Ends b rest
mark_ends b rest (inl e) = (42 ∷ [], e)
mark_ends b rest (inr (inl e)) = (46 ∷ [], e)
mark_ends b rest (inr (inr e)) = all_ends b rest e.1

year_behind_ends : (year y : ℕ) (b rest : List ℕ) → year_behind year y b rest → Ends b rest
year_behind_ends year y b rest (inl h) = follows_ends (SpacedYear y) b rest h
year_behind_ends year y b rest (inr h) = all_ends b rest h.2

fraction_ends : (m : ℕ) (b rest : List ℕ) → Optional Point 0 m b rest → Ends b rest
fraction_ends m b rest (inl (i, e, (x, f, h), out)) = ends_on b i rest (46 ∷ [], e) (x, f)
fraction_ends m b rest (inr h) = all_ends b rest h.2

named_date_ends : (year : ℕ) (d : ℕ × ℕ × ℕ) (b rest : List ℕ) → NamedDate year d b rest → Ends b rest
named_date_ends year d b rest (inl (x, (y, e, h), (z, f, k))) = ends_on b x rest (y, e) (z, f)
named_date_ends year d b rest (inr (none, (x, (y, e, h), k))) = ends_on b x rest (y, e)
    (year_behind_ends year d.0 x rest k)

stamp_ends : (clock : LegacyClock) (i : ℤ) (b rest : List ℕ) → Stamp clock i b rest → Ends b rest
stamp_ends clock i b rest (inl (t, (x, e, h), n)) = (x, e)
stamp_ends clock i b rest (inr (none, (c, (x, y, h, (z, e, k), f), n))) =
    ends_on b x rest (named_date_ends clock.year (c.year, c.month, c.day) b x h)
    (ends_on x y rest (z, e) (fraction_ends c.micros y rest f))

pub wide_time_space : (clock : LegacyClock) (i : ℤ) (b rest : List ℕ) → WideTime clock i b rest → Ends b (32 ∷ rest)
wide_time_space clock i b rest (x, y, h, k, l) =
    ends_on b x (32 ∷ rest) (mark_ends b x h)
    (ends_on x y (32 ∷ rest) (stamp_ends clock i x y k) (without_ends 58 y (32 ∷ rest) l))

pub wide_time_ends : (clock : LegacyClock) (i : ℤ) (b rest : List ℕ) → WideTime clock i b rest → Ends b rest
wide_time_ends clock i b rest h = ends_on b (32 ∷ rest) rest (wide_time_space clock i b rest h) (32 ∷ [], refl)
