-- Days in the order of their entries.
use Rattle.std.proofs.Common.{◌≡◌, ℕ, ◌+◌, ◌*◌, ◌<◌, ◌≤◌, List, [], ◌∷◌, ◌++◌, Option, None, Some, length}
use Rattle.std.proofs.Common.{take}
use Rattle.std.proofs.Common.{ℤ, pos, neg_ℤ, ◌+ℤ◌, ◌-ℤ◌, ◌*ℤ◌, ◌<ℤ◌, ◌≤ℤ◌, ◌∙◌, refl, sym, ap, subst, arith, inl, inr}
use Rattle.std.specs.Prelude.{◌≢◌, ◌⊎◌, ◌↔◌, Bool, codes, true, false, IfSome, IsTrue, not}
use Rattle.std.proofs.lemmas.Bool.{cases_lt, false≢true}
use Rattle.std.proofs.lemmas.Int.{by_lt_z}
use Rattle.jiff_core.proofs.SignedLemmas.{signed_arith}
use Rattle.syslog_value.specs.Calendar.{day_number}
use Rattle.syslog_value.specs.Instants.{IsCivil, instant_of, second_of_day}
use Rattle.syslog_value.specs.Order.{OctetsBelow}
use Rattle.syslog_value.specs.declared.civil.Civil.{Civil}
use Rattle.syslog_fields.specs.Canonical.{Canonical, HeaderForm, TimeForm, civil_text}
use Rattle.syslog_value.specs.Parts.{IsInstant, Parts}
use Rattle.syslog_fields.specs.Time.{padded}
use Rattle.archive_text.specs.Entries.{Entry, InstantBelow, IsBelow, IsEntry}
use Rattle.archive_text.proofs.Orders.{octets_total}
use Rattle.syslog_value.proofs.Octets.{below_itself as octets_irreflexive, below_trans as octets_transitive}
use Rattle.archive_sets.specs.Conditions.{IsInRange}
use Rattle.archive_sets.specs.declared.range.InRange.{InRange}
use Rattle.archive_text.specs.Periods.{IsPeriodOf}
use Rattle.archive_text.specs.declared.period.Period.TheVariants.{Day}
use Rattle.archive_text.proofs.Civils.{key, key_rises}
use Rattle.archive_text.proofs.Names.{one_name}
use Rattle.store_reading.specs.Days.{HasInstant, IsDayBelow, IsDayText, IsFrom, IsOf, IsUpTo}
use Rattle.store_reading.specs.Ranges.{MayMeet}
use Rattle.syslog_value.proofs.DayNumbers.{month_most}

-- ---- the date of an instant

-- YYYY-MM-DD
abbrev date_text : Civil → List ℕ
date_text c = padded 4 c.year ++ 45 ∷ padded 2 c.month ++ 45 ∷ padded 2 c.day

first_ten : (c : Civil) → take 10 (civil_text c) ≡ date_text c
unfolding civil_text
first_ten c = refl

record IsDated (i : ℤ) (day : List ℕ) : Type 0 where
  civil : Civil
  exists : IsCivil civil
  names : instant_of civil (pos 0) ≡ i
  is : day ≡ date_text civil

dated : (i : ℤ) (day : List ℕ) → IsPeriodOf Day (Some i) day → IsDated i day
dated i day (time, (c, exists, names, text), first) =
    record { civil = c; exists = exists; names = names; is = first ∙ ap (take 10) text ∙ first_ten c }

date_length : (i : ℤ) (day : List ℕ) → IsPeriodOf Day (Some i) day → length day ≡ 10
date_length i day h = ap length (dated i day h).is

-- ---- the digits of a date

year_below : (y z : ℕ) (r s : List ℕ) → y ≤ 9999 → z ≤ 9999 → OctetsBelow (padded 4 y ++ r) (padded 4 z ++ s)
    → (y < z) ⊎ ((y ≡ z) × OctetsBelow r s)
year_below y z r s hy hz (inl a) = inl (omega arith)
year_below y z r s hy hz (inr (e, inl a)) = inl (omega arith)
year_below y z r s hy hz (inr (e, inr (f, inl a))) = inl (omega arith)
year_below y z r s hy hz (inr (e, inr (f, inr (g, inl a)))) = inl (omega arith)
year_below y z r s hy hz (inr (e, inr (f, inr (g, inr (h, rest))))) = inr (omega arith, rest)

two_below : (m n : ℕ) (r s : List ℕ) → m ≤ 99 → n ≤ 99 → OctetsBelow (padded 2 m ++ r) (padded 2 n ++ s)
    → (m < n) ⊎ ((m ≡ n) × OctetsBelow r s)
two_below m n r s hm hn (inl a) = inl (omega arith)
two_below m n r s hm hn (inr (e, inl a)) = inl (omega arith)
two_below m n r s hm hn (inr (e, inr (f, rest))) = inr (omega arith, rest)

behind_dash : (r s : List ℕ) → OctetsBelow (45 ∷ r) (45 ∷ s) → OctetsBelow r s
behind_dash r s (inl a) = absurd (omega arith)
behind_dash r s (inr (e, rest)) = rest

less_year : (y m d z n e : ℕ) → m ≤ 12 → d ≤ 31 → 1 ≤ n → y < z → (y * 12 + m) * 32 + d < (z * 12 + n) * 32 + e
less_year y m d z n e small few some less = omega arith

less_month : (y m d z n e : ℕ) → d ≤ 31 → y ≡ z → m < n → (y * 12 + m) * 32 + d < (z * 12 + n) * 32 + e
less_month y m d z n e few same less = omega arith

less_day : (y m d z n e : ℕ) → y ≡ z → m ≡ n → d < e → (y * 12 + m) * 32 + d < (z * 12 + n) * 32 + e
less_day y m d z n e same also less = omega arith

module _ (c d : Civil) (hc : IsCivil c) (hd : IsCivil d) where
  few : c.day ≤ 31
  few = omega (arith, hc.0.4, month_most c.year c.month)

  few' : d.day ≤ 31
  few' = omega (arith, hd.0.4, month_most d.year d.month)

  by_day : c.year ≡ d.year → c.month ≡ d.month
      → (c.day < d.day) ⊎ ((c.day ≡ d.day) × OctetsBelow [] []) → key Day c < key Day d
  by_day year month (inl less) = less_day c.year c.month c.day d.year d.month d.day year month less
  by_day year month (inr (same, none)) = absurd none

  by_month : c.year ≡ d.year
      → (c.month < d.month) ⊎ ((c.month ≡ d.month) × OctetsBelow (45 ∷ padded 2 c.day) (45 ∷ padded 2 d.day))
      → key Day c < key Day d
  by_month year (inl less) = less_month c.year c.month c.day d.year d.month d.day few year less
  by_month year (inr (month, rest)) =
      by_day year month (two_below c.day d.day [] [] (omega (arith, few)) (omega (arith, few'))
      (behind_dash (padded 2 c.day) (padded 2 d.day) rest))

  by_year : (c.year < d.year) ⊎ ((c.year ≡ d.year)
      × OctetsBelow (45 ∷ padded 2 c.month ++ 45 ∷ padded 2 c.day) (45 ∷ padded 2 d.month ++ 45 ∷ padded 2 d.day))
      → key Day c < key Day d
  by_year (inl less) = less_year c.year c.month c.day d.year d.month d.day hc.0.2 few hd.0.1 less
  by_year (inr (year, rest)) =
      by_month year (two_below c.month d.month (45 ∷ padded 2 c.day) (45 ∷ padded 2 d.day) (omega (arith, hc.0.2))
      (omega (arith, hd.0.2)) (behind_dash (padded 2 c.month ++ 45 ∷ padded 2 c.day)
      (padded 2 d.month ++ 45 ∷ padded 2 d.day) rest))

  text_less : OctetsBelow (date_text c) (date_text d) → key Day c < key Day d
  text_less below =
      by_year (year_below c.year d.year (45 ∷ padded 2 c.month ++ 45 ∷ padded 2 c.day)
      (45 ∷ padded 2 d.month ++ 45 ∷ padded 2 d.day) hc.0.0 hd.0.0 below)

-- the earlier date is of the earlier instant
date_order : (i j : ℤ) (a b : List ℕ) → IsPeriodOf Day (Some i) a → IsPeriodOf Day (Some j) b → OctetsBelow a b → i <ℤ j
date_order i j a b h k below =
    let m = dated i a h in
    let n = dated j b k in
    let less : key Day m.civil < key Day n.civil = text_less m.civil n.civil m.exists n.exists
    (subst (λ (t : List ℕ). OctetsBelow t (date_text n.civil)) m.is (subst (OctetsBelow a) n.is below)) in
    by_lt_z i j (λ earlier. earlier) (λ from. absurd (omega (
      arith,
      less,
      key_rises Day n.civil m.civil n.exists m.exists
          (omega (arith, signed_arith, n.names, m.names, from)),
    )))

instant_order : (i j : Option ℤ) (a b : List ℕ) → IsPeriodOf Day i a → IsPeriodOf Day j b → IsDayBelow a b
    → InstantBelow i j
instant_order None None a b h k (inl less) = absurd (omega (arith, less, ap length h, ap length k))
instant_order None None a b h k (inr (same, below)) =
    absurd (octets_irreflexive a (subst (OctetsBelow a) (k ∙ sym h) below))
instant_order None (Some j) a b h k below = tt
instant_order (Some i) None a b h k (inl less) = absurd (omega (arith, less, date_length i a h, ap length k))
instant_order (Some i) None a b h k (inr (same, below)) = absurd (omega (arith, same, date_length i a h, ap length k))
instant_order (Some i) (Some j) a b h k (inl less) =
    absurd (omega (arith, less, date_length i a h, date_length j b k))
instant_order (Some i) (Some j) a b h k (inr (same, below)) = date_order i j a b h k below

-- entries of an earlier day are below those of a later one
pub day_order : (a b : List ℕ) (e f : Entry) → IsOf a e → IsOf b f → IsDayBelow a b → InstantBelow e.instant f.instant
day_order a b e f h k below = instant_order e.instant f.instant a b h k below

pub entry_order : (a b : List ℕ) (e f : Entry) → IsOf a e → IsOf b f → IsDayBelow a b → IsBelow e f
entry_order a b e f h k below = inl (day_order a b e f h k below)

-- ---- days

text_of_day : (i : Option ℤ) (day : List ℕ) → IsPeriodOf Day i day → IsDayText day
text_of_day None day h = inl h
text_of_day (Some i) day h = inr (date_length i day h)

-- an entry is of a day, and of one
pub day_text : (day : List ℕ) (e : Entry) → IsOf day e → IsDayText day
day_text day e h = text_of_day e.instant day h

pub one_day : (a b : List ℕ) (e : Entry) → IsOf a e → IsOf b e → a ≡ b
one_day a b e h k = one_name Day e.instant a b h k

pub day_total : (a b : List ℕ) → IsDayBelow a b ⊎ ((a ≡ b) ⊎ IsDayBelow b a)
day_total a b = go (cases_lt (length a) (length b)) (cases_lt (length b) (length a)) (octets_total a b)
  where
    go : (length a < length b) ⊎ (length b ≤ length a) → (length b < length a) ⊎ (length a ≤ length b)
        → OctetsBelow a b ⊎ ((a ≡ b) ⊎ OctetsBelow b a) → IsDayBelow a b ⊎ ((a ≡ b) ⊎ IsDayBelow b a)
    go (inl less) k o = inl (inl less)
    go (inr from) (inl more) o = inr (inr (inl more))
    go (inr from) (inr to) (inl below) = inl (inr (omega (arith, from, to), below))
    go (inr from) (inr to) (inr (inl same)) = inr (inl same)
    go (inr from) (inr to) (inr (inr above)) = inr (inr (inr (omega (arith, from, to), above)))

pub day_irreflexive : (a : List ℕ) → ¬ (IsDayBelow a a)
day_irreflexive a (inl less) = omega (arith, less)
day_irreflexive a (inr (same, below)) = octets_irreflexive a below

pub day_transitive : (a b c : List ℕ) → IsDayBelow a b → IsDayBelow b c → IsDayBelow a c
day_transitive a b c (inl h) (inl k) = inl (omega (arith, h, k))
day_transitive a b c (inl h) (inr (k, l)) = inl (omega (arith, h, k))
day_transitive a b c (inr (h, l)) (inl k) = inl (omega (arith, h, k))
day_transitive a b c (inr (h, l)) (inr (k, m)) = inr (h ∙ k, octets_transitive a b c l m)

timed : (r : Parts ℤ) (b : List ℕ) → Canonical r b → (time : List ℕ) × TimeForm r.time time
unfolding HeaderForm
timed r b (x, y, e, (u, v, f, g, (p, q, h, (s, t, k, time, space), others)), last) = (s, time)

day_of_time : (i : Option ℤ) (time : List ℕ) → TimeForm i time → (day : List ℕ) × IsPeriodOf Day i day
day_of_time None time h = (codes "undated", refl)
day_of_time (Some i) time h = (take 10 time, (time, h, refl))

-- an entry is of some day
pub some_day : (e : Entry) → IsEntry e → (day : List ℕ) × IsOf day e
some_day e (r, h) =
    let t = timed r e.octets h.canonical in
    let d = day_of_time r.time t.0 t.1 in
    (d.0, subst (λ (i : Option ℤ). IsPeriodOf Day i d.0) (sym h.instant) d.1)

-- days whose names are as long, by what a comparison of the names says
pub less_octets : (a b : List ℕ) → length a ≡ length b → OctetsBelow a b → IsTrue true ↔ IsDayBelow a b
less_octets a b same below = (λ h. inr (same, below), λ h. refl)

not_below : (a b : List ℕ) → length a ≡ length b → ¬ (OctetsBelow a b) → IsTrue false ↔ IsDayBelow a b
not_below a b same none = (
  λ h. absurd (false≢true h),
  λ h. elim h [ inl less ↦ absurd (omega (arith, less, same)) | inr below ↦ absurd (none below.1) ],
)

pub equal_octets : (a b : List ℕ) → length a ≡ length b → a ≡ b → IsTrue false ↔ IsDayBelow a b
equal_octets a b size same =
    not_below a b size (λ below. octets_irreflexive b (subst (λ (x : List ℕ). OctetsBelow x b) same below))

pub greater_octets : (a b : List ℕ) → length a ≡ length b → OctetsBelow b a → IsTrue false ↔ IsDayBelow a b
greater_octets a b size above = not_below a b size (λ below. octets_irreflexive a (octets_transitive a b a below above))

-- ---- days outside a range

undated_instant : (day : List ℕ) (i : Option ℤ) → IsPeriodOf Day i day → day ≡ codes "undated" → i ≡ None
undated_instant day None h is = refl
undated_instant day (Some i) h is = absurd (omega (arith, date_length i day h, ap length is))

dated_instant : (day : List ℕ) (i : Option ℤ) → IsPeriodOf Day i day → day ≢ codes "undated" → (j : ℤ) × (i ≡ Some j)
dated_instant day None h not = absurd (not h)
dated_instant day (Some j) h not = (j, refl)

pub undated_out : (from to : Option ℤ) (u : Bool) (day : List ℕ) (e : Entry) → day ≡ codes "undated" → IsOf day e
    → ¬ (IsInRange from to u None) → ¬ (IsInRange from to u e.instant)
undated_out from to u day e is of out inside =
    out (subst (IsInRange from to u) (undated_instant day e.instant of is) inside)

pub before_out : (f : ℤ) (to : Option ℤ) (u : Bool) (day d : List ℕ) (e : Entry) → day ≢ codes "undated" → IsOf day e
    → IsPeriodOf Day (Some f) d → IsDayBelow day d → ¬ (IsInRange (Some f) to u e.instant)
before_out f to u day d e not of lies below inside =
    let j = dated_instant day e.instant of not in
    let here = subst (IsInRange (Some f) to u) j.1 inside in
    let earlier : j.0 <ℤ f = instant_order (Some j.0) (Some f) day d
    (subst (λ (i : Option ℤ). IsPeriodOf Day i day) j.1 of) lies below in
    let from : f ≤ℤ j.0 = here.0 in
    omega (arith, signed_arith, earlier, from)

pub from_out : (from : Option ℤ) (t : ℤ) (u : Bool) (day : List ℕ) (e : Entry) → day ≢ codes "undated" → IsOf day e
    → IsFrom t day → ¬ (IsInRange from (Some t) u e.instant)
from_out from t u day e not of late inside =
    let j = dated_instant day e.instant of not in
    let here = subst (IsInRange from (Some t) u) j.1 inside in
    let after : t ≤ℤ j.0 = late j.0 (subst (λ (i : Option ℤ). IsPeriodOf Day i day) j.1 of) in
    let until : j.0 <ℤ t = here.1 in
    omega (arith, signed_arith, after, until)

-- a day behind that of the last instant before a bound is from the bound on
pub behind_from : (t last : ℤ) (day d : List ℕ) → last ≡ t -ℤ pos 1 → IsPeriodOf Day (Some last) d → IsDayBelow d day
    → IsFrom t day
behind_from t last day d is lies below i of =
    let later : last <ℤ i = instant_order (Some last) (Some i) d day lies of below in
    omega (arith, signed_arith, is, later)

-- and a day that is from the bound on is behind it
pub from_behind : (t last : ℤ) (day d : List ℕ) → last ≡ t -ℤ pos 1 → IsPeriodOf Day (Some last) d → HasInstant day
    → IsFrom t day → IsDayBelow d day
from_behind t last day d is lies (i, of) late =
    elim (day_total d day) [
      | inl below ↦ below
      | inr (inl same) ↦
          let from : t ≤ℤ last = late last (subst (IsPeriodOf Day (Some last)) same lies) in
          absurd (omega (arith, signed_arith, is, from))
      | inr (inr above) ↦
          let less : i <ℤ last = instant_order (Some i) (Some last) day d of lies above in
          let from : t ≤ℤ i = late i of in
          absurd (omega (arith, signed_arith, is, less, from))
    ]

day_from : (y m d : ℕ) → neg_ℤ (pos 719_528) ≤ℤ day_number y m d
unfolding day_number
day_from y m d = omega (arith, signed_arith)

joined_from : (day : ℤ) (s u : ℕ) → neg_ℤ (pos 719_528) ≤ℤ day
    → neg_ℤ (pos 62_167_219_200_000_000)
    ≤ℤ ((day *ℤ pos 86_400 +ℤ pos s -ℤ pos 0 *ℤ pos 60) *ℤ pos 1_000_000 +ℤ pos u)
joined_from day s u from = omega (arith, signed_arith)

instant_from : (c : Civil) → neg_ℤ (pos 62_167_219_200_000_000) ≤ℤ instant_of c (pos 0)
instant_from c =
    joined_from (day_number c.year c.month c.day) (second_of_day c) c.micros (day_from c.year c.month c.day)

-- each day is from the first instant of all on
pub first_from : (t : ℤ) (day : List ℕ) → IsInstant t → ¬ (IsInstant (t -ℤ pos 1)) → IsFrom t day
first_from t day valid none i of =
    let m = dated i day of in
    let least = instant_from m.civil in
    by_lt_z i t
    (λ less. absurd (none (
      omega (arith, signed_arith, least, m.names, less),
      omega (arith, signed_arith, valid.1),
    )))
    (λ le. le)

-- `undated` has no instant
undated_apart : (day : List ℕ) → day ≡ codes "undated" → ¬ (HasInstant day)
undated_apart day is (i, of) = omega (arith, date_length i day of, ap length is)

pub undated_behind : (to : Option ℤ) (day : List ℕ) (t : Bool) → day ≡ codes "undated"
    → IfSome to (λ (bound : ℤ). HasInstant day → IsFrom bound day → IsTrue t)
undated_behind None day t is = tt
undated_behind (Some bound) day t is = λ dated from. absurd (undated_apart day is dated)

pub named_order : (t : Bool) (a b x y : List ℕ) → a ≡ x → b ≡ y → IsTrue t ↔ IsDayBelow a b → IsTrue t ↔ IsDayBelow x y
named_order t a b x y first second h =
    subst (λ (u : List ℕ). IsTrue t ↔ IsDayBelow u y) first (subst (λ (v : List ℕ). IsTrue t ↔ IsDayBelow a v) second h)

-- a test that a day is `undated` failed
pub not_undated : (t : Bool) (day : List ℕ) → IsTrue t ↔ (day ≡ codes "undated") → t ≡ false → day ≢ codes "undated"
not_undated true day says off same = absurd (cc off)
not_undated false day says off same = false≢true (says.1 same)

-- ---- days that may have a record in a range

some_all : (o : Option ℤ) (P : ℤ → Type 0) → ((x : ℤ) → P x) → IfSome o P
some_all None P p = tt
some_all (Some x) P p = p x

pub undated_meets : (range : InRange) (day : List ℕ) (kept : Bool) → IsDayText day → day ≡ codes "undated"
    → not kept ≡ false → (kept ≡ true → IsInRange range.from range.to range.undated None) → MayMeet range day
undated_meets range day true named is off inside = record {
  dated = named;
  undated = λ same. inside refl;
  from = some_all range.from (λ (f : ℤ). HasInstant day → ¬ (IsUpTo f day))
      (λ f has. absurd (undated_apart day is has));
  to = some_all range.to (λ (t : ℤ). HasInstant day → ¬ (IsFrom t day)) (λ t has. absurd (undated_apart day is has));
}
undated_meets range day false named is off inside = absurd (cc off)

pub day_meets : (range : InRange) (day : List ℕ) → IsDayText day → day ≢ codes "undated"
    → IfSome range.from (λ (f : ℤ). HasInstant day → ¬ (IsUpTo f day))
    → IfSome range.to (λ (t : ℤ). HasInstant day → ¬ (IsFrom t day)) → MayMeet range day
day_meets range day named not from to =
    record { dated = named; undated = λ is. absurd (not is); from = from; to = to }

-- a day that is not before that of an instant
pub not_up_to : (f : ℤ) (day d : List ℕ) → IsPeriodOf Day (Some f) d → ¬ (IsDayBelow day d) → HasInstant day
    → ¬ (IsUpTo f day)
not_up_to f day d lies late (i, of) before =
    elim (day_total day d) [
      | inl below ↦ late below
      | inr (inl same) ↦
          let less : f <ℤ f = before f (subst (IsPeriodOf Day (Some f)) (sym same) lies) in
          absurd (omega (arith, signed_arith, less))
      | inr (inr above) ↦
          let later : f <ℤ i = instant_order (Some f) (Some i) d day lies of above in
          let less : i <ℤ f = before i of in
          absurd (omega (arith, signed_arith, later, less))
    ]
