-- What the readers of a timestamp of the wide dialect have read.
use Rattle.std.proofs.Common.{◌≡◌, ◌≢◌, ℕ, ◌+◌, ◌*◌, ◌/◌, ◌%◌, ◌≤◌, List, [], ◌∷◌, ◌++◌, length, refl, sym, ap, subst}
use Rattle.std.proofs.Common.{◌∙◌, inl, inr, arith, append_assoc, ℤ}
use Rattle.octet_language.specs.Digits.{IsDigit}
use Rattle.octet_language.specs.Language.{Only, ◌⋅◌, AnyOf, IfFirst, NoPrefix}
use Rattle.octet_language.specs.Reading.{Follows}
use Rattle.octet_language.proofs.Chain.{Follows-then, IsPrefixFree-only}
use Rattle.octet_language.proofs.Lists.{heads, tails}
use Rattle.octet_language.proofs.Sequence.{NoPrefix-first, NoPrefix-later}
use Rattle.syslog_value.specs.Calendar.{month_length}
use Rattle.syslog_value.specs.declared.civil.Civil.{Civil}
use Rattle.syslog_value.specs.declared.instant.TimeFault.{TimeFault}
use Rattle.syslog_value.specs.declared.instant.TimeFault.TheVariants.{NoSuchDate, NoSuchTime, BadOffset, OutOfRange}
use Rattle.syslog_value.specs.Instants.{IsFault, IsOffset}
use Rattle.syslog_value.specs.Parts.{IsInstant}
use Rattle.syslog_fields.specs.Dates.{Clock, Date}
use Rattle.syslog_fields.specs.Time.{CivilTime, ClockText, DateText, FractionText, OffsetText, TimeText, Two, YearText}
use Rattle.syslog_fields.specs.Time.{ZoneText, padded}
use Rattle.syslog_fields.proofs.Fractions.{AnyZone, IsSign, zone_prefix, zone_some, zone_cases}
use Rattle.syslog_fields.proofs.Times.{IsPrefixFree-two, IsPrefixFree-year, OneValue-year}
use Rattle.syslog_fields.proofs.Times.{IsPrefixFree-date, OneValue-two, four_back}
use Rattle.syslog_legacy.specs.declared.clock.LegacyClock.{LegacyClock}
use Rattle.syslog_legacy.specs.Parts.{Lacks, Optional, Without}
use Rattle.syslog_legacy.specs.WideTimes.{BehindMark, MonthDay, NamedDate, NamedTime, Names, Point}
use Rattle.syslog_legacy.specs.WideTimes.{SpacedYear, Stamp, WideTime}
use Rattle.syslog_legacy.specs.Hosts.{SplitsRun}
use Rattle.syslog_legacy.proofs.Longest.{the_run}
use Rattle.syslog_legacy.proofs.Parts.{OnePart, follows_one, not_first, optional_one, rest_one, without_one}
use Rattle.syslog_legacy.proofs.WideTimes.{clock_part_one, mark_one, named_date_one, named_time_one, own_one, own_there}
use Rattle.syslog_legacy.proofs.WideTimes.{point_one, point_run, spaced_one, stamp_one, year_there}

-- ---- years

year_halves : (s : List ℕ) → AnyOf YearText s → (AnyOf (Two 0 99) ⋅ AnyOf (Two 0 99)) s
year_halves s (y, (h, e)) = (
  padded 2 (y / 100),
  padded 2 (y % 100),
  e ∙ four_back (48 + y / 10 / 10 / 10 % 10) (48 + y / 10 / 10 % 10) (48 + y / 10 % 10) (48 + y % 10)
      (48 + y / 100 / 10 % 10) (48 + y / 100 % 10) (48 + y % 100 / 10 % 10) (48 + y % 100 % 10) (omega arith)
      (omega arith) (omega arith) (omega arith),
  (y / 100, (omega arith, omega arith, refl)),
  (y % 100, (omega arith, omega arith, refl)),
)

halved : (b : List ℕ) → NoPrefix (AnyOf (Two 0 99) ⋅ AnyOf (Two 0 99)) b → NoPrefix (AnyOf YearText) b
halved b none x y e h = none x y e (year_halves x h)

pub no_century : (b : List ℕ) → NoPrefix (AnyOf (Two 0 99)) b → NoPrefix (AnyOf YearText) b
no_century b none = halved b (NoPrefix-first (AnyOf (Two 0 99)) (AnyOf (Two 0 99)) b none)

pub no_year_end : (b rest : List ℕ) (c : ℕ) → Follows (Two 0 99 c) b rest → NoPrefix (AnyOf (Two 0 99)) rest
    → NoPrefix (AnyOf YearText) b
no_year_end b rest c (x, e, h) none = halved b
    (NoPrefix-later (AnyOf (Two 0 99)) (AnyOf (Two 0 99)) b x rest (IsPrefixFree-two 0 99) (c, h) e none)

spaced_parts : (s : List ℕ) → AnyOf SpacedYear s → (AnyOf YearText ⋅ Only (32 ∷ [])) s
spaced_parts s (y, (u, v, e, h, k)) = (u, v, e, (y, h), k)

pub no_year : (b : List ℕ) → NoPrefix (AnyOf YearText) b → NoPrefix (AnyOf SpacedYear) b
no_year b none x y e h = NoPrefix-first (AnyOf YearText) (Only (32 ∷ [])) b none x y e (spaced_parts x h)

no_only : (n : ℕ) (b : List ℕ) → IfFirst (λ x. x ≢ n) b → NoPrefix (Only (n ∷ [])) b
no_only n b out x y e h = not_first n b y out (e ∙ ap (λ (k : List ℕ). k ++ y) h)

pub no_year_space : (b rest : List ℕ) (y : ℕ) → Follows (YearText y) b rest → IfFirst (λ x. x ≢ 32) rest
    → NoPrefix (AnyOf SpacedYear) b
no_year_space b rest y (x, e, h) out u v f k =
    NoPrefix-later (AnyOf YearText) (Only (32 ∷ [])) b x rest IsPrefixFree-year (y, h) e (no_only 32 rest out) u v f
    (spaced_parts u k)

pub year_space : (b rest after : List ℕ) (y : ℕ) → Follows (YearText y) b rest → rest ≡ 32 ∷ after
    → Follows (SpacedYear y) b after
year_space b rest after y f e = Follows-then (YearText y) (Only (32 ∷ [])) b rest after f (32 ∷ [], e, refl)

-- ---- dates with the name of a month

pub no_day_behind : (year y : ℕ) (b rest : List ℕ) → Follows (SpacedYear y) b rest → NoPrefix (AnyOf MonthDay) rest
    → Lacks (NamedDate year) b
no_day_behind year y b rest f none d end (inl (x, h, (z, e, k))) =
    let same = spaced_one b d.0 y x rest h f in none z end (sym same.1 ∙ e) ((d.1, d.2), k)
no_day_behind year y b rest f none d end (inr (other, k)) = other f.0 rest f.1 (y, f.2)

pub no_date_here : (year : ℕ) (b : List ℕ) → NoPrefix (AnyOf SpacedYear) b → NoPrefix (AnyOf MonthDay) b
    → Lacks (NamedDate year) b
no_date_here year b none other d end (inl h) = year_there d b end none h
no_date_here year b none other d end (inr (free, (x, (z, e, h), k))) = other z x e ((d.1, d.2), h)

-- ---- times with the name of a month

pub no_point : (b behind run rest : List ℕ) → b ≡ 46 ∷ behind → SplitsRun IsDigit 7 behind run rest
    → (1 ≤ length run → length run ≤ 6 → ⊥) → Lacks Point b
no_point b behind run rest e s none m end (i, f, (y, g, k), out) =
    let inside : i ≡ behind = tails 46 46 i behind (sym f ∙ e) in
    let same = the_run IsDigit 7 behind run rest y end s (point_run y end m k out) out (sym inside ∙ g) in
    none (omega (arith, ap length same.0, k.0)) (omega (arith, ap length same.0, k.1))

pub no_named_date : (year : ℕ) (b : List ℕ) → Lacks (NamedDate year) b → Lacks (NamedTime year) b
no_named_date year b none c end (x, y, h, k, f) = none (c.year, c.month, c.day) x h

pub no_named_clock : (year : ℕ) (d : ℕ × ℕ × ℕ) (b rest : List ℕ) → NamedDate year d b rest
    → NoPrefix (AnyOf Clock) rest → Lacks (NamedTime year) b
no_named_clock year d b rest g none c end (x, y, h, (z, e, k), f) =
    let same = named_date_one year b (c.year, c.month, c.day) d x rest h g in
    none z y (sym same.1 ∙ e) ((c.hour, c.minute, c.second), k)

-- ---- the dates of RFC 5424

-- a date by what each of its parts leaves
record IsOwnDate (d : ℕ × ℕ × ℕ) (b end : List ℕ) : Type 0 where
  pub behind_year : List ℕ
  pub month : List ℕ
  pub behind_month : List ℕ
  pub day : List ℕ
  pub is_year : Follows (YearText d.0) b behind_year
  pub first : behind_year ≡ 45 ∷ month
  pub is_month : Follows (Two 1 12 d.1) month behind_month
  pub second : behind_month ≡ 45 ∷ day
  pub is_day : Follows (Two 1 (month_length d.0 d.1) d.2) day end

date_parts : (d : ℕ × ℕ × ℕ) (b end : List ℕ) → Follows (Date d) b end → IsOwnDate d b end
date_parts d b end (t, e, (x1, y1, e1, h1, (x2, y2, e2, h2, (x3, y3, e3, h3, (x4, y4, e4, h4, h5))))) = record {
  behind_year = y1 ++ end;
  month = y2 ++ end;
  behind_month = y3 ++ end;
  day = y4 ++ end;
  is_year = (x1, e ∙ rw e1 (append_assoc x1 y1 end), h1);
  first = rw (e2, h2) refl;
  is_month = (x3, rw e3 (append_assoc x3 y3 end), h3);
  second = rw (e4, h4) refl;
  is_day = (y4, refl, h5);
}

pub two_one : (low high : ℕ) → high ≤ 99 → OnePart (λ n. Follows (Two low high n))
two_one low high small = follows_one (Two low high) (IsPrefixFree-two low high) (OneValue-two low high small)

pub year_one : OnePart (λ y. Follows (YearText y))
year_one = follows_one YearText IsPrefixFree-year OneValue-year

pub no_own_year : (b : List ℕ) → NoPrefix (AnyOf YearText) b → NoPrefix (AnyOf Date) b
no_own_year b none x y e (d, h) = let p = date_parts d b y (x, e, h) in
    none p.is_year.0 p.behind_year p.is_year.1 (d.0, p.is_year.2)

pub no_first_dash : (b rest : List ℕ) (y : ℕ) → Follows (YearText y) b rest → IfFirst (λ x. x ≢ 45) rest
    → NoPrefix (AnyOf Date) b
no_first_dash b rest y f out x end e (d, h) =
    let p = date_parts d b end (x, e, h) in
    not_first 45 rest p.month out (sym (year_one b d.0 y p.behind_year rest p.is_year f).1 ∙ p.first)

pub no_own_month : (b rest after : List ℕ) (y : ℕ) → Follows (YearText y) b rest → rest ≡ 45 ∷ after
    → NoPrefix (AnyOf (Two 1 12)) after → NoPrefix (AnyOf Date) b
no_own_month b rest after y f e none x end g (d, h) =
    let p = date_parts d b end (x, g, h) in
    let same = year_one b d.0 y p.behind_year rest p.is_year f in
    let month : after ≡ p.month = tails 45 45 after p.month (sym e ∙ sym same.1 ∙ p.first) in
    none p.is_month.0 p.behind_month (month ∙ p.is_month.1) (d.1, p.is_month.2)

-- what is known behind the month
record BehindMonth (d : ℕ × ℕ × ℕ) (y m : ℕ) (b behind end : List ℕ) : Type 0 where
  pub year : d.0 ≡ y
  pub month : d.1 ≡ m
  pub day : List ℕ
  pub parts : behind ≡ 45 ∷ day
  pub is_day : Follows (Two 1 (month_length d.0 d.1) d.2) day end

behind_month : (b rest after behind end : List ℕ) (y m : ℕ) (d : ℕ × ℕ × ℕ) → Follows (YearText y) b rest
    → rest ≡ 45 ∷ after → Follows (Two 1 12 m) after behind → Follows (Date d) b end → BehindMonth d y m b behind end
behind_month b rest after behind end y m d f e g h =
    let p = date_parts d b end h in
    let same = year_one b d.0 y p.behind_year rest p.is_year f in
    let month : p.month ≡ after = tails 45 45 p.month after (sym p.first ∙ same.1 ∙ e) in
    let two = two_one 1 12 (omega arith) after d.1 m p.behind_month behind
    (subst (λ (u : List ℕ). Follows (Two 1 12 d.1) u p.behind_month) month p.is_month) g in
    record { year = same.0; month = two.0; day = p.day; parts = sym two.1 ∙ p.second; is_day = p.is_day }

pub no_second_dash : (b rest after behind : List ℕ) (y m : ℕ) → Follows (YearText y) b rest → rest ≡ 45 ∷ after
    → Follows (Two 1 12 m) after behind → IfFirst (λ x. x ≢ 45) behind → NoPrefix (AnyOf Date) b
no_second_dash b rest after behind y m f e g out x end i (d, h) =
    let p = behind_month b rest after behind end y m d f e g (x, i, h) in not_first 45 behind p.day out p.parts

pub no_own_day : (b rest after behind day : List ℕ) (y m last : ℕ) → Follows (YearText y) b rest → rest ≡ 45 ∷ after
    → Follows (Two 1 12 m) after behind → behind ≡ 45 ∷ day → last ≡ month_length y m
    → NoPrefix (AnyOf (Two 1 last)) day → NoPrefix (AnyOf Date) b
no_own_day b rest after behind day y m last f e g i is none x end j (d, h) =
    let p = behind_month b rest after behind end y m d f e g (x, j, h) in
    let same : day ≡ p.day = tails 45 45 day p.day (sym i ∙ p.parts) in
    let len : month_length d.0 d.1 ≡ last =
    ap (λ (n : ℕ). month_length n d.1) p.year ∙ ap (month_length y) p.month ∙ sym is in
    none p.is_day.0 end (same ∙ p.is_day.1) (d.2, subst (λ (n : ℕ). Two 1 n d.2 p.is_day.0) len p.is_day.2)

pub own_date_read : (b rest after behind day end : List ℕ) (y m d last : ℕ) → Follows (YearText y) b rest
    → rest ≡ 45 ∷ after → Follows (Two 1 12 m) after behind → behind ≡ 45 ∷ day → last ≡ month_length y m
    → Follows (Two 1 last d) day end → Follows (Date (y, m, d)) b end
own_date_read b rest after behind day end y m d last f e g i is h' =
    let h = subst (λ (n : ℕ). Follows (Two 1 n d) day end) is h' in
    Follows-then (YearText y) (Only (45 ∷ []) ⋅ Two 1 12 m ⋅ Only (45 ∷ []) ⋅ Two 1 (month_length y m) d) b rest end f
    (Follows-then (Only (45 ∷ [])) (Two 1 12 m ⋅ Only (45 ∷ []) ⋅ Two 1 (month_length y m) d) rest after end
    (45 ∷ [], e, refl)
    (Follows-then (Two 1 12 m) (Only (45 ∷ []) ⋅ Two 1 (month_length y m) d) after behind end g
    (Follows-then (Only (45 ∷ [])) (Two 1 (month_length y m) d) behind day end (45 ∷ [], i, refl) h)))

-- ---- the zone

offset_parts : (s : List ℕ) → AnyOf OffsetText s → (AnyOf (Two 0 23) ⋅ (Only (58 ∷ []) ⋅ AnyOf (Two 0 59))) s
offset_parts s (n, (h, m, is, (x, y, e, f, (u, v, g, c, k)))) = (x, y, e, (h, f), (u, v, g, c, (m, k)))

pub no_offset_hour : (b : List ℕ) → NoPrefix (AnyOf (Two 0 23)) b → NoPrefix (AnyOf OffsetText) b
no_offset_hour b none x y e h =
    NoPrefix-first (AnyOf (Two 0 23)) (Only (58 ∷ []) ⋅ AnyOf (Two 0 59)) b none x y e (offset_parts x h)

no_behind_hour : (b rest : List ℕ) (n : ℕ) → Follows (Two 0 23 n) b rest
    → NoPrefix (Only (58 ∷ []) ⋅ AnyOf (Two 0 59)) rest → NoPrefix (AnyOf OffsetText) b
no_behind_hour b rest n (u, f, i) none x y e h =
    NoPrefix-later (AnyOf (Two 0 23)) (Only (58 ∷ []) ⋅ AnyOf (Two 0 59)) b u rest (IsPrefixFree-two 0 23) (n, i) f none
    x y e (offset_parts x h)

pub no_offset_colon : (b rest : List ℕ) (n : ℕ) → Follows (Two 0 23 n) b rest → IfFirst (λ x. x ≢ 58) rest
    → NoPrefix (AnyOf OffsetText) b
no_offset_colon b rest n f out =
    no_behind_hour b rest n f (NoPrefix-first (Only (58 ∷ [])) (AnyOf (Two 0 59)) rest (no_only 58 rest out))

pub no_offset_minute : (b rest after : List ℕ) (n : ℕ) → Follows (Two 0 23 n) b rest → rest ≡ 58 ∷ after
    → NoPrefix (AnyOf (Two 0 59)) after → NoPrefix (AnyOf OffsetText) b
no_offset_minute b rest after n f e none =
    no_behind_hour b rest n f
    (NoPrefix-later (Only (58 ∷ [])) (AnyOf (Two 0 59)) rest (58 ∷ []) after (IsPrefixFree-only (58 ∷ [])) refl e none)

pub offset_read : (b rest after end : List ℕ) (h m n : ℕ) → Follows (Two 0 23 h) b rest → rest ≡ 58 ∷ after
    → Follows (Two 0 59 m) after end → n ≡ 60 * h + m → Follows (OffsetText n) b end
offset_read b rest after end h m n f e g is =
    let k = Follows-then (Two 0 23 h) (Only (58 ∷ []) ⋅ Two 0 59 m) b rest end f
    (Follows-then (Only (58 ∷ [])) (Two 0 59 m) rest after end (58 ∷ [], e, refl) g) in
    (k.0, k.1, (h, m, is, k.2))

glued : (b x y s : List ℕ) → b ≡ x ++ y → x ≡ s → b ≡ s ++ y
glued b x y s e f = e ∙ ap (λ (u : List ℕ). u ++ y) f

pub no_zone_first : (b : List ℕ) → IfFirst (λ x. x ≢ 90) b → IfFirst (λ x. x ≢ 43) b → IfFirst (λ x. x ≢ 45) b
    → NoPrefix AnyZone b
no_zone_first b utc plus minus x y e h = elim (zone_cases x h) [
  | inl f ↦ not_first 90 b y utc (glued b x y (90 ∷ []) e f)
  | inr k ↦ elim k.2 [
    | inl f ↦ not_first 43 b (k.0 ++ y) plus (glued b x y (43 ∷ k.0) e f)
    | inr f ↦ not_first 45 b (k.0 ++ y) minus (glued b x y (45 ∷ k.0) e f)
  ]
]

pub no_zone_offset : (b rest : List ℕ) (n : ℕ) → n ≢ 90 → b ≡ n ∷ rest → NoPrefix (AnyOf OffsetText) rest
    → NoPrefix AnyZone b
no_zone_offset b rest n apart i none x y e h = elim (zone_cases x h) [
  | inl f ↦ apart (heads n 90 rest y (sym i ∙ glued b x y (90 ∷ []) e f))
  | inr k ↦ elim k.2 [
    | inl f ↦ none k.0 y (tails n 43 rest (k.0 ++ y) (sym i ∙ glued b x y (43 ∷ k.0) e f)) k.1
    | inr f ↦ none k.0 y (tails n 45 rest (k.0 ++ y) (sym i ∙ glued b x y (45 ∷ k.0) e f)) k.1
  ]
]

-- ---- the timestamps of RFC 5424

sign_apart : (x : ℕ) → IsSign x → (¬ (IsDigit x)) × (x ≢ 46)
sign_apart x (inl e) = (λ d. omega (arith, e, d.1), λ f. omega (arith, e, f))
sign_apart x (inr (inl e)) = (λ d. omega (arith, e, d.0), λ f. omega (arith, e, f))
sign_apart x (inr (inr e)) = (λ d. omega (arith, e, d.0), λ f. omega (arith, e, f))

zone_ends : (z end : List ℕ) → AnyZone z → IfFirst (λ x. ¬ (IsDigit x)) (z ++ end) × IfFirst (λ x. x ≢ 46) (z ++ end)
zone_ends [] end h = absurd (zone_some h)
zone_ends (x ∷ z) end h = sign_apart x (zone_prefix x z h)

-- a timestamp by what each of its parts leaves
record IsOwn (t : CivilTime) (b end : List ℕ) : Type 0 where
  pub behind_date : List ℕ
  pub clock : List ℕ
  pub fraction : List ℕ
  pub zone : List ℕ
  pub is_date : Follows (Date (t.civil.year, t.civil.month, t.civil.day)) b behind_date
  pub mark : behind_date ≡ 84 ∷ clock
  pub is_clock : Follows (Clock (t.civil.hour, t.civil.minute, t.civil.second)) clock fraction
  pub is_fraction : Optional Point 0 t.civil.micros fraction zone
  pub is_zone : Follows (ZoneText t.offset) zone end

fraction_part : (m : ℕ) (o : ℤ) (b x z end : List ℕ) → FractionText m x → ZoneText o z → b ≡ x ++ (z ++ end)
    → Optional Point 0 m b (z ++ end)
fraction_part m o b x z end (inl (none, e)) k f =
    let same : z ++ end ≡ b = sym (f ∙ ap (λ (u : List ℕ). u ++ (z ++ end)) e) in
    let out : IfFirst (λ y. y ≢ 46) b = subst (IfFirst (λ y. y ≢ 46)) same (zone_ends z end (o, k)).1 in
    inr (λ v rest p. not_first 46 b p.0 out p.1, none, same)
fraction_part m o b x z end (inr (u, v, e, h, d)) k f =
    inl (
      v ++ (z ++ end),
      f ∙ ap (λ (w : List ℕ). w ++ (z ++ end)) (e ∙ ap (λ (w : List ℕ). w ++ v) h),
      (v, refl, d),
      (zone_ends z end (o, k)).0,
    )

own_parts : (t : CivilTime) (b end : List ℕ) → Follows (TimeText t) b end → IsOwn t b end
own_parts t b end (w, e, (x1, y1, e1, h1, (x2, y2, e2, h2, (x3, y3, e3, h3, (x4, y4, e4, h4, h5))))) = record {
  behind_date = y1 ++ end;
  clock = y2 ++ end;
  fraction = y3 ++ end;
  zone = y4 ++ end;
  is_date = (x1, e ∙ rw e1 (append_assoc x1 y1 end), h1);
  mark = rw (e2, h2) refl;
  is_clock = (x3, rw e3 (append_assoc x3 y3 end), h3);
  is_fraction = fraction_part t.civil.micros t.offset (y3 ++ end) x4 y4 end h4 h5 (rw e4 (append_assoc x4 y4 end));
  is_zone = (y4, refl, h5);
}

fraction_text : (m : ℕ) (b zone : List ℕ) → Optional Point 0 m b zone → Follows (FractionText m) b zone
fraction_text m b zone (inl (i, e, (v, f, d), out)) =
    (46 ∷ v, e ∙ ap (λ (u : List ℕ). 46 ∷ u) f, inr (46 ∷ [], v, refl, refl, d))
fraction_text m b zone (inr (none, e, f)) = ([], sym f, inl (e, refl))

pub own_read : (c : Civil) (o : ℤ) (b behind clock fraction zone end : List ℕ)
    → Follows (Date (c.year, c.month, c.day)) b behind → behind ≡ 84 ∷ clock
    → Follows (Clock (c.hour, c.minute, c.second)) clock fraction → Optional Point 0 c.micros fraction zone
    → Follows (ZoneText o) zone end
    → (let t : CivilTime = record { civil = c; offset = o } in Follows (TimeText t) b end)
own_read c o b behind clock fraction zone end d e k f z =
    let date = DateText c.year c.month c.day in
    let time = ClockText c.hour c.minute c.second in
    Follows-then date (Only (84 ∷ []) ⋅ time ⋅ FractionText c.micros ⋅ ZoneText o) b behind end d
    (Follows-then (Only (84 ∷ [])) (time ⋅ FractionText c.micros ⋅ ZoneText o) behind clock end (84 ∷ [], e, refl)
    (Follows-then time (FractionText c.micros ⋅ ZoneText o) clock fraction end k
    (Follows-then (FractionText c.micros) (ZoneText o) fraction zone end (fraction_text c.micros fraction zone f) z)))

pub no_own_date : (b : List ℕ) → NoPrefix (AnyOf Date) b → NoPrefix (AnyOf TimeText) b
no_own_date b none x y e (t, h) =
    let p = own_parts t b y (x, e, h) in
    none p.is_date.0 p.behind_date p.is_date.1 ((t.civil.year, t.civil.month, t.civil.day), p.is_date.2)

pub no_own_mark : (b rest : List ℕ) (d : ℕ × ℕ × ℕ) → Follows (Date d) b rest → IfFirst (λ x. x ≢ 84) rest
    → NoPrefix (AnyOf TimeText) b
no_own_mark b rest d f out x y e (t, h) =
    let p = own_parts t b y (x, e, h) in
    let same : p.behind_date ≡ rest =
    rest_one Date IsPrefixFree-date (t.civil.year, t.civil.month, t.civil.day) d b p.behind_date rest p.is_date f in
    not_first 84 rest p.clock out (sym same ∙ p.mark)

-- what is known behind the date
own_clock : (b rest after end : List ℕ) (d : ℕ × ℕ × ℕ) (t : CivilTime) → Follows (Date d) b rest → rest ≡ 84 ∷ after
    → (p : IsOwn t b end) → p.clock ≡ after
own_clock b rest after end d t f e p =
    let same : p.behind_date ≡ rest =
    rest_one Date IsPrefixFree-date (t.civil.year, t.civil.month, t.civil.day) d b p.behind_date rest p.is_date f in
    tails 84 84 p.clock after (sym p.mark ∙ same ∙ e)

pub no_own_clock : (b rest after : List ℕ) (d : ℕ × ℕ × ℕ) → Follows (Date d) b rest → rest ≡ 84 ∷ after
    → NoPrefix (AnyOf Clock) after → NoPrefix (AnyOf TimeText) b
no_own_clock b rest after d f e none x y g (t, h) =
    let p = own_parts t b y (x, g, h) in
    let same = own_clock b rest after y d t f e p in
    none p.is_clock.0 p.fraction (sym same ∙ p.is_clock.1)
    ((t.civil.hour, t.civil.minute, t.civil.second), p.is_clock.2)

pub no_own_zone : (b rest after behind zone : List ℕ) (d c : ℕ × ℕ × ℕ) (m : ℕ) → Follows (Date d) b rest
    → rest ≡ 84 ∷ after → Follows (Clock c) after behind → Optional Point 0 m behind zone → NoPrefix AnyZone zone
    → NoPrefix (AnyOf TimeText) b
no_own_zone b rest after behind zone d c m f e k i none x y g (t, h) =
    let p = own_parts t b y (x, g, h) in
    let same = own_clock b rest after y d t f e p in
    let own : ℕ × ℕ × ℕ = (t.civil.hour, t.civil.minute, t.civil.second) in
    let time : p.fraction ≡ behind = (clock_part_one after own c p.fraction behind
    (subst (λ (u : List ℕ). Follows (Clock own) u p.fraction) same p.is_clock) k).1 in
    let last : p.zone ≡ zone = (optional_one Point 0 point_one behind t.civil.micros m p.zone zone
    (subst (λ (u : List ℕ). Optional Point 0 t.civil.micros u p.zone) time p.is_fraction) i).1 in
    none p.is_zone.0 y (sym last ∙ p.is_zone.1) (t.offset, p.is_zone.2)

-- ---- instants

pub names_none : (c : Civil) (o : ℤ) (fault : TimeFault) → IsOffset o → IsFault c o fault → (i : ℤ) → ¬ (Names c o i)
names_none c o NoSuchDate offset f i n = f n.0.0
names_none c o NoSuchTime offset f i n = f.1 n.0.1
names_none c o BadOffset offset f i n = f.1 offset
names_none c o OutOfRange offset f i n = f.2 (subst IsInstant n.1 n.2)

-- the time of RFC 5424, whatever its offset is called
pub own_stamp : (clock : LegacyClock) (b rest : List ℕ) (c : Civil) (o z i : ℤ) → z ≡ o
    → (let t : CivilTime = record { civil = c; offset = o } in Follows (TimeText t) b rest) → Names c z i
    → Stamp clock i b rest
own_stamp clock b rest c o z i e f n =
    let t : CivilTime = record { civil = c; offset = o } in inl (t, f, subst (λ (k : ℤ). Names c k i) e n)

pub no_own_instant : (clock : LegacyClock) (b rest : List ℕ) (c : Civil) (o z : ℤ) → z ≡ o
    → (let t : CivilTime = record { civil = c; offset = o } in Follows (TimeText t) b rest)
    → ((i : ℤ) → Names c z i → ⊥) → Lacks (Stamp clock) b
no_own_instant clock b rest c o z e f none i end (inl (t, h, n)) =
    let own : CivilTime = record { civil = c; offset = o } in
    let same : t ≡ own = (own_one b t own end rest h f).0 in
    let is : Names c o i = subst (λ (u : CivilTime). Names u.civil u.offset i) same n in
    none i (subst (λ (k : ℤ). Names c k i) (sym e) is)
no_own_instant clock b rest c o z e f none i end (inr (other, k)) =
    other f.0 rest f.1 ((let own : CivilTime = record { civil = c; offset = o } in own), f.2)

pub clock_stamp : (clock : LegacyClock) (year : ℕ) (b rest : List ℕ) (c : Civil) (z i : ℤ) → year ≡ clock.year
    → z ≡ clock.offset_minutes → NoPrefix (AnyOf TimeText) b → NamedTime year c b rest → Names c z i
    → Stamp clock i b rest
clock_stamp clock year b rest c z i is e none f n =
    inr (none, (c, subst (λ (y : ℕ). NamedTime y c b rest) is f, subst (λ (k : ℤ). Names c k i) e n))

pub no_named : (clock : LegacyClock) (year : ℕ) (b : List ℕ) → year ≡ clock.year → NoPrefix (AnyOf TimeText) b
    → Lacks (NamedTime year) b → Lacks (Stamp clock) b
no_named clock year b is none other i end (inl h) = own_there i b end none h
no_named clock year b is none other i end (inr (free, (c, h, n))) =
    other c end (subst (λ (y : ℕ). NamedTime y c b end) (sym is) h)

pub no_named_instant : (clock : LegacyClock) (year : ℕ) (b rest : List ℕ) (c : Civil) (z : ℤ) → year ≡ clock.year
    → z ≡ clock.offset_minutes → NoPrefix (AnyOf TimeText) b → NamedTime year c b rest
    → ((i : ℤ) → Names c z i → ⊥) → Lacks (Stamp clock) b
no_named_instant clock year b rest c z is e none f other i end (inl h) = own_there i b end none h
no_named_instant clock year b rest c z is e none f other i end (inr (free, (d, h, n))) =
    let own : NamedTime clock.year c b rest = subst (λ (y : ℕ). NamedTime y c b rest) is f in
    let same : d ≡ c = (named_time_one clock.year b d c end rest h own).0 in
    let found : Names c clock.offset_minutes i = subst (λ (u : Civil). Names u clock.offset_minutes i) same n in
    other i (subst (λ (k : ℤ). Names c k i) (sym e) found)

-- ---- the whole

pub no_stamp : (clock : LegacyClock) (b rest : List ℕ) → BehindMark b rest → Lacks (Stamp clock) rest
    → Lacks (WideTime clock) b
no_stamp clock b rest m none i end (x, y, h, k, l) =
    none i y (subst (λ (u : List ℕ). Stamp clock i u y) (mark_one b x rest h m) k)

pub no_space : (clock : LegacyClock) (b rest after behind : List ℕ) (i : ℤ) → BehindMark b rest
    → Stamp clock i rest after → Without 58 after behind → IfFirst (λ x. x ≢ 32) behind → Lacks (WideTime clock) b
no_space clock b rest after behind i m s w out j end (x, y, h, k, l) =
    let mark : x ≡ rest = mark_one b x rest h m in
    let same : y ≡ after = (stamp_one clock rest j i y after (subst (λ (u : List ℕ). Stamp clock j u y) mark k) s).1 in
    not_first 32 behind end out
    (without_one 58 after behind (32 ∷ end) w (subst (λ (u : List ℕ). Without 58 u (32 ∷ end)) same l))

pub wide_read : (clock : LegacyClock) (b rest after behind end : List ℕ) (i : ℤ) → BehindMark b rest
    → Stamp clock i rest after → Without 58 after behind → behind ≡ 32 ∷ end → WideTime clock i b end
wide_read clock b rest after behind end i m s w e = (rest, after, m, s, subst (Without 58 after) e w)
