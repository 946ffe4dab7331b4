-- Names in the order of their periods.
use Rattle.std.proofs.Common.{◌≡◌, ◌⊎◌, ℕ, ◌+◌, ◌-◌, ◌<◌, ◌≤◌, Bool, true, false, List, [], ◌∷◌, ◌++◌, Option}
use Rattle.std.proofs.Common.{length, take, drop, inl, inr, refl, sym, ap, subst, ◌∙◌, arith, append_assoc, length-append}
use Rattle.std.specs.Prelude.{◌↔◌, Contains, None, Some, IfSome, IsSomeAnd, codes, not, slice_index_or}
use Rattle.std.specs.declared.cmp.Ordering.{Ordering}
use Rattle.std.specs.declared.cmp.Ordering.TheVariants.{Less, Equal, Greater}
use Rattle.std.specs.Cmp.{IsStrictWeakOrder, IsTotalOrder}
use Rattle.std.specs.Cmp.Lexicographic.{slice_cmp}
use Rattle.std.specs.List.Sorted.{IsPartitionedBy, IsPartitionPoint, IsSortedBy}
use Rattle.std.specs.Ordering.{MatchOrdering, is_lt, nat_cmp, ordering_then}
use Rattle.std.proofs.lemmas.Bool.{cases_lt, false≢true}
use Rattle.std.proofs.lemmas.Cmp.{nat_cmp_total, nat_list_cmp_total, on_total, ranked, then_total}
use Rattle.std.proofs.lemmas.List.{get_or-drop, get_or-take, get_or_default, length-drop, length-take, take_at}
use Rattle.std.proofs.lemmas.List.Elements.{Contains-push_cases}
use Rattle.std.proofs.lemmas.List.Sorted.{ranks_by, sorted_far}
use Rattle.syslog_value.specs.Order.{OctetsBelow}
use Rattle.syslog_value.proofs.Octets.{octets_ranked}
use Rattle.store_reading.specs.Days.{IsAfter, IsDayBelow, IsDayText}
use Rattle.store_reading.specs.Names.{HaveSegment, IsNextSegment}
use Rattle.store_reading.specs.Order.{AreInOrder, comes_before, compare_periods, is_period_below, period_of}
use Rattle.record_store.specs.Names.{IsSegment}
use Rattle.store_reading.proofs.DayOrders.{day_irreflexive, day_transitive}

-- ---- periods

below_cases : (a b : List ℕ) (long order : Ordering)
    → MatchOrdering long (length a < length b) (length a ≡ length b) (length b < length a)
    → MatchOrdering order (OctetsBelow a b) (a ≡ b) (OctetsBelow b a)
    → (is_lt (ordering_then long order) ≡ true) ↔ IsDayBelow a b
below_cases a b Less order m n = (λ h. inl m, λ h. refl)
below_cases a b Equal Less m n = (λ h. inr (m, n), λ h. refl)
below_cases a b Equal Equal m n = (
  λ h. absurd (false≢true h),
  λ h. absurd (day_irreflexive b (subst (λ (x : List ℕ). IsDayBelow x b) n h)),
)
below_cases a b Equal Greater m n = (
  λ h. absurd (false≢true h),
  λ h. absurd (day_irreflexive a (day_transitive a b a h (inr (sym m, n)))),
)
below_cases a b Greater order m n = (
  λ h. absurd (false≢true h),
  λ h. absurd (day_irreflexive a (day_transitive a b a h (inl m))),
)

pub below_is : (a b : List ℕ) → (is_period_below a b ≡ true) ↔ IsDayBelow a b
below_is a b =
    below_cases a b (nat_cmp (length a) (length b)) (slice_cmp nat_cmp a b)
    (ranked (length a) (length b) (nat_cmp (length a) (length b)) refl)
    (octets_ranked a b (slice_cmp nat_cmp a b) refl)

pub not_below : (a b : List ℕ) → is_period_below a b ≡ false → ¬ (IsDayBelow a b)
not_below a b off below = false≢true (sym off ∙ (below_is a b).1 below)

periods_total : IsTotalOrder compare_periods
periods_total = then_total (on_total length nat_cmp_total) nat_list_cmp_total

pub orders : {X : Type 0} (key : X → List ℕ) → IsStrictWeakOrder (λ x y. is_period_below (key x) (key y))
orders key = ranks_by periods_total key

chain : (a b c : List ℕ) → is_period_below a b ≡ false → is_period_below b c ≡ false → is_period_below a c ≡ false
chain a b c = (orders (λ (x : List ℕ). x)).chain a b c

-- the period of a segment
pub period_is : (period name : List ℕ) → IsSegment period name → period_of name ≡ period
period_is period name s =
    let size : length name - 73 ≡ length period = omega (
      arith,
      ap length s.name_is,
      length-append (period ++ 46 ∷ s.digest) (codes ".archive"),
      length-append period (46 ∷ s.digest),
      s.long,
    ) in
    ap (λ (n : ℕ). take n name) size
    ∙ ap (take (length period)) (s.name_is ∙ append_assoc period (46 ∷ s.digest) (codes ".archive"))
    ∙ take_at period ((46 ∷ s.digest) ++ codes ".archive") (length period) refl

-- ---- parts of lists

drop_has : {X : Type 0} (xs : List X) (at : ℕ) (x : X) → Contains (drop at xs) x → Contains xs x
drop_has xs at x (k, below, is) =
    (at + k, omega (arith, below, length-drop at xs), sym (get_or-drop at xs k x) ∙ is)

has_drop : {X : Type 0} (xs : List X) (at k : ℕ) (x : X) → at ≤ k → k < length xs → slice_index_or xs k x ≡ x
    → Contains (drop at xs) x
has_drop xs at k x far below is = (
  k - at,
  omega (arith, below, far, length-drop at xs),
  get_or-drop at xs (k - at) x ∙ ap (λ (n : ℕ). slice_index_or xs n x) (omega (arith, far)) ∙ is,
)

has_take : {X : Type 0} (xs : List X) (at k : ℕ) (x : X) → k < at → k < length xs → slice_index_or xs k x ≡ x
    → Contains (take at xs) x
has_take xs at k x near below is =
    (k, omega (arith, near, below, length-take at xs), get_or-take at xs k x near ∙ is)

take_has : {X : Type 0} (xs : List X) (at : ℕ) (x : X) → Contains (take at xs) x → Contains xs x
take_has xs at x (k, below, is) =
    (k, omega (arith, below, length-take at xs), sym (get_or-take at xs k x (omega (arith, below, length-take at xs))) ∙ is)

drop_sorted : {X : Type 0} (lt : X → X → Bool) (xs : List X) (at : ℕ) → IsSortedBy lt xs → IsSortedBy lt (drop at xs)
drop_sorted lt xs at up k d from below =
    let second : slice_index_or (drop at xs) (k + 1) d ≡ slice_index_or xs ((at + k) + 1) d =
    get_or-drop at xs (k + 1) d ∙ ap (λ (n : ℕ). slice_index_or xs n d) (omega arith) in
    subst (λ x. lt (slice_index_or (drop at xs) (k + 1) d) x ≡ false) (sym (get_or-drop at xs k d))
    (subst (λ x. lt x (slice_index_or xs (at + k) d) ≡ false) (sym second)
    (up (at + k) d (omega arith) (omega (arith, below, length-drop at xs))))

-- ---- the names from a period on

pub parted_before : (names : List (List ℕ)) (period : List ℕ) → AreInOrder names
    → IsPartitionedBy (λ name. is_period_below (period_of name) period) names
parted_before names period up i j d le inside hit = go (is_period_below (period_of (slice_index_or names i d)) period) refl
  where
    far : comes_before (slice_index_or names j d) (slice_index_or names i d) ≡ false
    far = sorted_far comes_before (orders period_of) names up i j d le inside

    go : (b : Bool) → is_period_below (period_of (slice_index_or names i d)) period ≡ b
        → is_period_below (period_of (slice_index_or names i d)) period ≡ true
    go true is = is
    go false is =
        absurd (false≢true (sym (chain (period_of (slice_index_or names j d)) (period_of (slice_index_or names i d)) period
        far is) ∙ hit))

pub from_all : (names : List (List ℕ)) (period : List ℕ) (at : ℕ)
    → IsPartitionPoint (λ name. is_period_below (period_of name) period ≡ true)
    (λ name. is_period_below (period_of name) period ≡ false) names at
    → (name : List ℕ) → Contains names name → ¬ (IsDayBelow (period_of name) period) → Contains (drop at names) name
from_all names period at point name (k, below, is) not = go (cases_lt k at)
  where
    go : (k < at) ⊎ (at ≤ k) → Contains (drop at names) name
    go (inl near) =
        let hit = subst (λ (n : List ℕ). is_period_below (period_of n) period ≡ true) is (point.0 k name (omega arith) near) in
        absurd (not ((below_is (period_of name) period).0 hit))
    go (inr far) = has_drop names at k name far below is

pub from_has : (names : List (List ℕ)) (at : ℕ) (name : List ℕ) → Contains (drop at names) name → Contains names name
from_has names at name = drop_has names at name

pub from_order : (names : List (List ℕ)) (at : ℕ) → AreInOrder names → AreInOrder (drop at names)
from_order names at up = drop_sorted comes_before names at up

-- ---- the names up to those of a period

off_is : (b : Bool) → not b ≡ true → b ≡ false
off_is true h = absurd (false≢true h)
off_is false h = refl

on_is : (b : Bool) → not b ≡ false → b ≡ true
on_is true h = refl
on_is false h = absurd (false≢true (sym h))

pub parted_behind : (names : List (List ℕ)) (period : List ℕ) → AreInOrder names
    → IsPartitionedBy (λ name. not (is_period_below period (period_of name))) names
parted_behind names period up i j d le inside hit =
    ap not (chain period (period_of (slice_index_or names j d)) (period_of (slice_index_or names i d))
    (off_is (is_period_below period (period_of (slice_index_or names j d))) hit)
    (sorted_far comes_before (orders period_of) names up i j d le inside))

abbrev pub IsPoint : List (List ℕ) → List ℕ → ℕ → Type 0
IsPoint names period at =
    IsPartitionPoint (λ name. not (is_period_below period (period_of name)) ≡ true)
    (λ name. not (is_period_below period (period_of name)) ≡ false) names at

pub front_has : (names : List (List ℕ)) (at : ℕ) (name : List ℕ) → Contains (take at names) name → Contains names name
front_has names at name = take_has names at name

pub up_to_all : (names : List (List ℕ)) (period : List ℕ) (at : ℕ) → IsPoint names period at
    → (name : List ℕ) → Contains names name → ¬ (IsDayBelow period (period_of name)) → Contains (take at names) name
up_to_all names period at point name (k, below, is) not_behind = go (cases_lt k at)
  where
    go : (k < at) ⊎ (at ≤ k) → Contains (take at names) name
    go (inl near) = has_take names at k name near below is
    go (inr far) =
        let off = subst (λ (n : List ℕ). not (is_period_below period (period_of n)) ≡ false) is
        (point.1 k name far below) in
        absurd (not_behind ((below_is period (period_of name)).0 (on_is (is_period_below period (period_of name)) off)))

pub behind_all : (names : List (List ℕ)) (period : List ℕ) (at : ℕ) → IsPoint names period at
    → (name : List ℕ) → Contains names name → IsDayBelow period (period_of name) → Contains (drop at names) name
behind_all names period at point name (k, below, is) behind = go (cases_lt k at)
  where
    go : (k < at) ⊎ (at ≤ k) → Contains (drop at names) name
    go (inl near) =
        let on = subst (λ (n : List ℕ). not (is_period_below period (period_of n)) ≡ true) is
        (point.0 k name (omega arith) near) in
        absurd (not_below period (period_of name) (off_is (is_period_below period (period_of name)) on) behind)
    go (inr far) = has_drop names at k name far below is

pub back_has : (names : List (List ℕ)) (period : List ℕ) (at : ℕ) → IsPoint names period at → (name : List ℕ)
    → Contains (drop at names) name → Contains names name × IsDayBelow period (period_of name)
back_has names period at point name (k, below, is) = (
  drop_has names at name (k, below, is),
  (below_is period (period_of name)).0 (on_is (is_period_below period (period_of name))
      (subst (λ (n : List ℕ). not (is_period_below period (period_of n)) ≡ false) (sym (get_or-drop at names k name) ∙ is)
      (point.1 (at + k) name (omega arith) (omega (arith, below, length-drop at names))))),
)

-- ---- the names of a period

pub own_all : (names from front : List (List ℕ)) (period : List ℕ)
    → ((name : List ℕ) → Contains names name → ¬ (IsDayBelow (period_of name) period) → Contains from name)
    → ((name : List ℕ) → Contains from name → ¬ (IsDayBelow period (period_of name)) → Contains front name)
    → (name : List ℕ) → Contains names name → IsSegment period name → Contains front name
own_all names from front period since up_to name has segment =
    let same = period_is period name segment in
    up_to name
    (since name has (λ below. day_irreflexive period (subst (λ (p : List ℕ). IsDayBelow p period) same below)))
    (λ below. day_irreflexive period (subst (IsDayBelow period) same below))

-- ---- the next day

abbrev pub NoDays : List (List ℕ) → Type 0
NoDays names = (day : List ℕ) → IsDayText day → ¬ (HaveSegment names day)

-- the first segment of names in their order is of the first day
pub first_is : (names : List (List ℕ)) (at : ℕ) (name day : List ℕ) → AreInOrder names → NoDays (take at names)
    → at < length names → name ≡ slice_index_or names at name → IsSegment day name → (d : List ℕ) → IsDayText d
    → HaveSegment names d → ¬ (IsDayBelow d day)
first_is names at name day up none inside is segment d text (n, (k, below, found), of) = go (cases_lt k at)
  where
    go : (k < at) ⊎ (at ≤ k) → ¬ (IsDayBelow d day)
    go (inl near) = absurd (none d text (n, has_take names at k n near below found, of))
    go (inr far) =
        let late = sorted_far comes_before (orders period_of) names up at k n far below in
        let one : slice_index_or names at n ≡ name = get_or_default names at n name inside ∙ sym is in
        not_below d day (subst (λ (p : List ℕ). is_period_below p day ≡ false) (period_is d n of)
        (subst (λ (p : List ℕ). is_period_below (period_of n) p ≡ false) (period_is day name segment)
        (subst (λ (x : List ℕ). comes_before n x ≡ false) one
        (subst (λ (x : List ℕ). comes_before x (slice_index_or names at n) ≡ false) found late))))

-- the first day of what stands behind the last one comes next
pub next_is : (last : Option (List ℕ)) (bound : List ℕ) (names behind : List (List ℕ)) (found : Option (List ℕ))
    → ((day : List ℕ) → IsDayText day → IsAfter last day ↔ IsDayBelow bound day)
    → ((name : List ℕ) → Contains behind name → Contains names name × IsDayBelow bound (period_of name))
    → ((name : List ℕ) → Contains names name → IsDayBelow bound (period_of name) → Contains behind name)
    → IfSome found (λ (day : List ℕ). IsDayText day × HaveSegment behind day)
    → ((day : List ℕ) → IsDayText day → HaveSegment behind day
    → IsSomeAnd found (λ (next : List ℕ). ¬ (IsDayBelow day next)))
    → IsNextSegment last names found
next_is last bound names behind found after within all some first = record {
  segment = segment_of found some;
  behind = behind_of found some;
  none_before = λ day text (name, has, of) later.
      first day text (
        name,
        all name has (subst (IsDayBelow bound) (sym (period_is day name of)) ((after day text).0 later)),
        of,
      );
}
  where
    segment_of : (o : Option (List ℕ)) → IfSome o (λ (day : List ℕ). IsDayText day × HaveSegment behind day)
        → IfSome o (HaveSegment names)
    segment_of None h = tt
    segment_of (Some day) (text, (name, has, of)) = (name, (within name has).0, of)

    behind_of : (o : Option (List ℕ)) → IfSome o (λ (day : List ℕ). IsDayText day × HaveSegment behind day)
        → IfSome o (IsAfter last)
    behind_of None h = tt
    behind_of (Some day) (text, (name, has, of)) =
        (after day text).1 (subst (IsDayBelow bound) (period_is day name of) (within name has).1)

pub no_days : NoDays []
no_days day text (name, (k, below, is), of) = omega (arith, below)

pub no_days_more : (names : List (List ℕ)) (name octets : List ℕ) (found : Option (List ℕ)) → NoDays names
    → octets ≡ name → found ≡ None → ((d : List ℕ) → IsDayText d → IsSegment d octets → found ≡ Some d)
    → NoDays (names ++ name ∷ [])
no_days_more names name octets found none same is only d text (n, has, of) =
    elim (Contains-push_cases names name n has) [
      | inl before ↦ none d text (n, before, of)
      | inr last ↦ absurd (cc (only d text (subst (IsSegment d) (sym last ∙ sym same) of), is))
    ]
