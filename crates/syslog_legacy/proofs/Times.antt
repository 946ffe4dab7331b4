-- A legacy timestamp, part by part, and its instant, which is in range.
use Rattle.std.proofs.Common.{◌≡◌, ◌≢◌, ℕ, ◌+◌, ◌/◌, ◌%◌, ◌≤◌, List, [], ◌∷◌, ◌++◌, refl, sym, ap, subst, ◌∙◌, arith}
use Rattle.std.proofs.Common.{inl, inr, ℤ}
use Rattle.octet_language.specs.Language.{Language, Only, ◌⋅◌, AnyOf, IfFirst, IsPrefixFree, NoPrefix}
use Rattle.octet_language.specs.Reading.{Follows}
use Rattle.octet_language.proofs.Chain.{Follows-then, IsPrefixFree-only, IsPrefixFree-same}
use Rattle.octet_language.proofs.Sequence.{IsPrefixFree-then, NoPrefix-first, NoPrefix-later}
use Rattle.syslog_value.specs.declared.civil.Civil.{Civil}
use Rattle.syslog_value.specs.Calendar.{month_length}
use Rattle.syslog_value.specs.Instants.{IsCivil, instant_of}
use Rattle.syslog_fields.specs.Dates.{Clock}
use Rattle.syslog_fields.specs.Time.{ClockText, padded}
use Rattle.syslog_reading.proofs.OneMeaning.{by_prefix}
use Rattle.syslog_fields.proofs.Times.{IsPrefixFree-clock, two_shown}
use Rattle.syslog_legacy.specs.declared.clock.LegacyClock.{LegacyClock}
use Rattle.syslog_legacy.specs.Clocks.{IsYear}
use Rattle.syslog_legacy.specs.Timestamps.{DateText, DayText, TimestampText}
use Rattle.syslog_legacy.proofs.Months.{IsPrefixFree-date, date_of_text, date_one}

-- ---- the parts of a timestamp

-- a date, a time of day and a space
abbrev pub AnyTime : ℕ → Language
AnyTime year = AnyOf (DateText year) ⋅ AnyOf Clock ⋅ Only (32 ∷ [])

any_time : (clock : LegacyClock) (s : List ℕ) → AnyOf (TimestampText clock) s → AnyTime clock.year s
any_time clock s (i, (c, cy, cm, (x, y, e, d, (u, v, f, k, sp)), is)) =
    let date : ℕ × ℕ = (c.month, c.day) in
    let time : ℕ × ℕ × ℕ = (c.hour, c.minute, c.second) in
    (x, y, e, (date, subst (λ (n : ℕ). DateText n date x) cy d), (u, v, f, (time, k), sp))

none_of : (clock : LegacyClock) (year : ℕ) (b : List ℕ) → year ≡ clock.year → NoPrefix (AnyTime year) b
    → NoPrefix (AnyOf (TimestampText clock)) b
none_of clock year b is none x y e h = none x y e (subst (λ (n : ℕ). AnyTime n x) (sym is) (any_time clock x h))

pub no_date : (clock : LegacyClock) (year : ℕ) (b : List ℕ) → year ≡ clock.year → NoPrefix (AnyOf (DateText year)) b
    → NoPrefix (AnyOf (TimestampText clock)) b
no_date clock year b is none = none_of clock year b is
    (NoPrefix-first (AnyOf (DateText year)) (AnyOf Clock ⋅ Only (32 ∷ [])) b none)

pub no_clock : (clock : LegacyClock) (year : ℕ) (d : ℕ × ℕ) (b rest : List ℕ) → year ≡ clock.year
    → Follows (DateText year d) b rest → NoPrefix (AnyOf Clock) rest → NoPrefix (AnyOf (TimestampText clock)) b
no_clock clock year d b rest is (x, e, h) none =
    none_of clock year b is (NoPrefix-later (AnyOf (DateText year)) (AnyOf Clock ⋅ Only (32 ∷ [])) b x rest
    (IsPrefixFree-date year) (d, h) e (NoPrefix-first (AnyOf Clock) (Only (32 ∷ [])) rest none))

pub no_space : (clock : LegacyClock) (year : ℕ) (d : ℕ × ℕ) (t : ℕ × ℕ × ℕ) (b rest after : List ℕ) → year ≡ clock.year
    → Follows (DateText year d) b rest → Follows (Clock t) rest after → NoPrefix (Only (32 ∷ [])) after
    → NoPrefix (AnyOf (TimestampText clock)) b
no_space clock year d t b rest after is (x, e, h) (y, f, k) none =
    none_of clock year b is
    (NoPrefix-later (AnyOf (DateText year)) (AnyOf Clock ⋅ Only (32 ∷ [])) b x rest (IsPrefixFree-date year) (d, h) e
    (NoPrefix-later (AnyOf Clock) (Only (32 ∷ [])) rest y after IsPrefixFree-clock (t, k) f none))

-- the civil time of these fields
abbrev pub civil_of : ℕ → ℕ × ℕ → ℕ × ℕ × ℕ → Civil
civil_of year d t = record { year = year; month = d.0; day = d.1; hour = t.0; minute = t.1; second = t.2; micros = 0 }

pub time_read : (clock : LegacyClock) (year : ℕ) (d : ℕ × ℕ) (t : ℕ × ℕ × ℕ) (i z : ℤ) (b rest after behind : List ℕ)
    → year ≡ clock.year → z ≡ clock.offset_minutes → Follows (DateText year d) b rest
    → Follows (Clock t) rest after → after ≡ 32 ∷ behind → i ≡ instant_of (civil_of year d t) z
    → Follows (TimestampText clock i) b behind
time_read clock year d t i z b rest after behind is offset f g e value =
    let k = Follows-then (DateText year d) (Clock t ⋅ Only (32 ∷ [])) b rest behind f
    (Follows-then (Clock t) (Only (32 ∷ [])) rest after behind g (32 ∷ [], e, refl)) in
    (k.0, k.1, (civil_of year d t, is, refl, k.2, value ∙ ap (instant_of (civil_of year d t)) offset))

-- ---- the instant

day_within : (last d : ℕ) (b : List ℕ) → DayText last d b → (1 ≤ d) × (d ≤ last)
day_within last d b (inl (l, h, e)) = (l, h)
day_within last d b (inr (l, h, n, e)) = (l, h)

clock_within : (h m s : ℕ) (b : List ℕ) → ClockText h m s b → (h ≤ 23) × (m ≤ 59) × (s ≤ 59)
clock_within h m s b (a, c, g, (hl, hh, he), (v, w, i, k, (p, q, j, (ml, mh, me), (r, t, l, n, (sl, sh, se))))) =
    (hh, mh, sh)

pub civil_exists : (year : ℕ) (d : ℕ × ℕ) (t : ℕ × ℕ × ℕ) (b rest after : List ℕ) → IsYear year
    → Follows (DateText year d) b rest → Follows (Clock t) rest after → IsCivil (civil_of year d t)
civil_exists year d t b rest after y (x, e, h) (u, f, k) =
    let o = date_of_text year d x h in
    let day = day_within (month_length year d.0) d.1 o.day o.is_day in
    let time = clock_within t.0 t.1 t.2 u k in
    ((omega (arith, y.1), o.is_month.0, o.is_month.1, day.0, day.1), (time.0, time.1, time.2, omega arith))

pub civil_valid : (c : Civil) (date time : List ℕ) → IsYear c.year
    → (let d : ℕ × ℕ = (c.month, c.day) in DateText c.year d date) → ClockText c.hour c.minute c.second time
    → c.micros ≡ 0 → IsCivil c
civil_valid c date time y h k none =
    let o = date_of_text c.year (c.month, c.day) date h in
    let day = day_within (month_length c.year c.month) c.day o.day o.is_day in
    let within = clock_within c.hour c.minute c.second time k in (
      (omega (arith, y.1), o.is_month.0, o.is_month.1, day.0, day.1),
      (within.0, within.1, within.2, omega (arith, none)),
    )

-- ---- one timestamp

pub IsPrefixFree-time : (clock : LegacyClock) → IsPrefixFree (AnyOf (TimestampText clock))
IsPrefixFree-time clock =
    IsPrefixFree-same (AnyTime clock.year) (AnyOf (TimestampText clock)) (any_time clock)
    (IsPrefixFree-then (AnyOf (DateText clock.year)) (AnyOf Clock ⋅ Only (32 ∷ [])) (IsPrefixFree-date clock.year)
    (IsPrefixFree-then (AnyOf Clock) (Only (32 ∷ [])) IsPrefixFree-clock (IsPrefixFree-only (32 ∷ []))))

clock_text : (h m s : ℕ) (b : List ℕ) → ClockText h m s b → b ≡ padded 2 h ++ 58 ∷ (padded 2 m ++ 58 ∷ padded 2 s)
clock_text h m s b (a, c, g, (hl, hh, he), (v, w, i, k, (p, q, j, (ml, mh, me), (r, t, l, n, (sl, sh, se))))) =
    g ∙ rw (he, i, k, j, me, l, n, se) refl

pub clock_one : (h m s h' m' s' : ℕ) (b : List ℕ) → ClockText h m s b → ClockText h' m' s' b
    → (h ≡ h') × (m ≡ m') × (s ≡ s')
clock_one h m s h' m' s' b k l =
    let i = clock_within h m s b k in
    let j = clock_within h' m' s' b l in
    let same : padded 2 h ++ 58 ∷ (padded 2 m ++ 58 ∷ padded 2 s)
    ≡ padded 2 h' ++ 58 ∷ (padded 2 m' ++ 58 ∷ padded 2 s') = sym (clock_text h m s b k) ∙ clock_text h' m' s' b l
    in
    let a1 : 48 + h / 10 % 10 ≡ 48 + h' / 10 % 10 = cc in
    let a2 : 48 + h % 10 ≡ 48 + h' % 10 = cc in
    let b1 : 48 + m / 10 % 10 ≡ 48 + m' / 10 % 10 = cc in
    let b2 : 48 + m % 10 ≡ 48 + m' % 10 = cc in
    let c1 : 48 + s / 10 % 10 ≡ 48 + s' / 10 % 10 = cc in
    let c2 : 48 + s % 10 ≡ 48 + s' % 10 = cc in (
      two_shown h h' (omega (arith, i.0)) (omega (arith, j.0)) a1 a2,
      two_shown m m' (omega (arith, i.1)) (omega (arith, j.1)) b1 b2,
      two_shown s s' (omega (arith, i.2)) (omega (arith, j.2)) c1 c2,
    )

instant_same : (c d : Civil) (o : ℤ) → c.year ≡ d.year → c.month ≡ d.month → c.day ≡ d.day → c.hour ≡ d.hour
    → c.minute ≡ d.minute → c.second ≡ d.second → c.micros ≡ d.micros → instant_of c o ≡ instant_of d o
instant_same c d o year month day hour minute second micros = rw (year, month, day, hour, minute, second, micros) refl

pub time_one : (clock : LegacyClock) (i j : ℤ) (b : List ℕ) → TimestampText clock i b → TimestampText clock j b → i ≡ j
time_one clock i j b (c, cy, cm, (x, y, e, d, (u, v, f, k, sp)), is)
    (c', cy', cm', (x', y', e', d', (u', v', f', k', sp')), is') =
    let date : ℕ × ℕ = (c.month, c.day) in
    let date' : ℕ × ℕ = (c'.month, c'.day) in
    let dates : DateText clock.year date x = subst (λ (n : ℕ). DateText n date x) cy d in
    let dates' : DateText clock.year date' x' = subst (λ (n : ℕ). DateText n date' x') cy' d' in
    let first = by_prefix (AnyOf (DateText clock.year)) x y x' y' (IsPrefixFree-date clock.year) (date, dates)
    (date', dates') (sym e ∙ e') in
    let same_day : date ≡ date' = date_one clock.year date date' x' (subst (DateText clock.year date) first.0 dates)
    dates' in
    let time : ℕ × ℕ × ℕ = (c.hour, c.minute, c.second) in
    let time' : ℕ × ℕ × ℕ = (c'.hour, c'.minute, c'.second) in
    let second = by_prefix (AnyOf Clock) u v u' v' IsPrefixFree-clock (time, k) (time', k') (sym f ∙ first.1 ∙ f') in
    let times = clock_one c.hour c.minute c.second c'.hour c'.minute c'.second u'
    (subst (ClockText c.hour c.minute c.second) second.0 k) k' in
    is ∙ instant_same c c' clock.offset_minutes (cy ∙ sym cy') (ap (λ (p : ℕ × ℕ). p.0) same_day)
    (ap (λ (p : ℕ × ℕ). p.1) same_day) times.0 times.1 times.2 (cm ∙ sym cm') ∙ sym is'

-- ---- the space behind it

pub not_space : (b : List ℕ) → IfFirst (λ x. x ≢ 32) b → NoPrefix (Only (32 ∷ [])) b
not_space b out x y e h =
    let e' : b ≡ 32 ∷ y = e ∙ ap (λ (k : List ℕ). k ++ y) h in
    let f : IfFirst (λ x. x ≢ 32) (32 ∷ y) = subst (IfFirst (λ x. x ≢ 32)) e' out in
    f refl
