-- What a sort and a removal of repeats leave.
use Rattle.std.proofs.Common.{◌≡◌, ℕ, ◌<◌, List, [], ◌∷◌, refl, sym, ap, subst, ◌∙◌, inl, inr, length, arith, ◌++◌}
use Rattle.std.proofs.lemmas.Int.{ints}
use Rattle.std.specs.Prelude.{true, slice_index_or, zero, suc}
use mathlib.Core.Bool.{true≢false}
use Rattle.std.specs.List.{AllByRecursion, Contains, dedup}
use Rattle.std.specs.List.Sorted.{IsPermutation, IsSorted, IsStrictlySortedBy}
use Rattle.std.specs.declared.cmp.Ordering.{Ordering}
use Rattle.std.specs.declared.cmp.Ordering.TheVariants.{Less, Equal, Greater}
use Rattle.std.specs.Cmp.{IsTotalOrder}
use Rattle.std.specs.Cmp.Lexicographic.{slice_cmp}
use Rattle.std.specs.Ordering.{MatchOrdering, eq_by_cmp, is_eq, nat_cmp, ordering_then}
use Rattle.std.proofs.lemmas.Cmp.{nat_cmp_total, nat_list_cmp_total, on_total, ranked, then_total}
use Rattle.std.proofs.lemmas.List.{map-append}
use Rattle.std.proofs.lemmas.List.Sorted.{Contains-permutation, IsPermutation-sym}
use Rattle.std.proofs.lemmas.List.Kept.{Any-dedup, Contains-from_dedup, IsStrictlySortedBy-dedup}
use Rattle.std.specs.Cmp.{eq_by_cmp_equiv}
use Rattle.syslog_value.specs.Order.{OctetsBelow}
use Rattle.syslog_value.proofs.Octets.{octets_ranked}
use Rattle.archive_text.specs.Entries.{Entry, Has, InstantBelow, IsAscending, IsBelow}
use Rattle.archive_text.proofs.Orders.{same_entry}
use Rattle.archive_sorting.specs.Settled.{HaveSame, span_cmp}
use Rattle.archive_sorting.specs.Spans.{IsWithin, Keeps, entries_at, entry_at, instant_at, octets_at}
use Rattle.archive_sorting.specs.declared.arena.Span.{Span}
use Rattle.archive_sorting.proofs.Blocks.{entries_stay}

pub span_cmp_total : (blocks : List (List ℕ)) → IsTotalOrder (span_cmp blocks)
span_cmp_total blocks = then_total (on_total (λ (s : Span). s.rank) nat_cmp_total)
    (on_total (octets_at blocks) nat_list_cmp_total)

-- ---- what a comparison says

-- the lower rank has the earlier instant
instants_below : (a b : ℕ) → a < b → InstantBelow (instant_at a) (instant_at b)
instants_below zero zero h = absurd (omega (arith, h))
instants_below zero (suc n) h = tt
instants_below (suc m) zero h = absurd (omega (arith, h))
instants_below (suc m) (suc n) h = omega (arith, ints, h)

span_ranked : (blocks : List (List ℕ)) (s t : Span) (first rest : Ordering)
    → MatchOrdering first (s.rank < t.rank) (s.rank ≡ t.rank) (t.rank < s.rank)
    → MatchOrdering rest (OctetsBelow (octets_at blocks s) (octets_at blocks t))
    (octets_at blocks s ≡ octets_at blocks t) (OctetsBelow (octets_at blocks t) (octets_at blocks s))
    → MatchOrdering (ordering_then first rest) (IsBelow (entry_at blocks s) (entry_at blocks t))
    (entry_at blocks s ≡ entry_at blocks t) (IsBelow (entry_at blocks t) (entry_at blocks s))
span_ranked blocks s t Less rest h r = inl (instants_below s.rank t.rank h)
span_ranked blocks s t Equal Less h r = inr (ap instant_at h, r)
span_ranked blocks s t Equal Equal h r = same_entry (entry_at blocks s) (entry_at blocks t) (ap instant_at h) r
span_ranked blocks s t Equal Greater h r = inr (sym (ap instant_at h), r)
span_ranked blocks s t Greater rest h r = inl (instants_below t.rank s.rank h)

pub span_means : (blocks : List (List ℕ)) (s t : Span) (o : Ordering) → span_cmp blocks s t ≡ o
    → MatchOrdering o (IsBelow (entry_at blocks s) (entry_at blocks t)) (entry_at blocks s ≡ entry_at blocks t)
    (IsBelow (entry_at blocks t) (entry_at blocks s))
span_means blocks s t o e =
    subst (λ (k : Ordering). MatchOrdering k (IsBelow (entry_at blocks s) (entry_at blocks t))
    (entry_at blocks s ≡ entry_at blocks t) (IsBelow (entry_at blocks t) (entry_at blocks s))) e
    (span_ranked blocks s t (nat_cmp s.rank t.rank) (slice_cmp nat_cmp (octets_at blocks s) (octets_at blocks t))
    (ranked s.rank t.rank (nat_cmp s.rank t.rank) refl)
    (octets_ranked (octets_at blocks s) (octets_at blocks t)
    (slice_cmp nat_cmp (octets_at blocks s) (octets_at blocks t)) refl))

is_equal : (o : Ordering) → is_eq o ≡ true → o ≡ Equal
is_equal Less h = absurd (true≢false (sym h))
is_equal Equal h = refl
is_equal Greater h = absurd (true≢false (sym h))

-- ---- strictly sorted spans show ascending entries

all_below : (blocks : List (List ℕ)) (s : Span) (spans : List Span)
    → AllByRecursion (λ t. span_cmp blocks s t ≡ Less) spans
    → AllByRecursion (IsBelow (entry_at blocks s)) (entries_at blocks spans)
all_below blocks s [] h = tt
all_below blocks s (t ∷ spans) h =
    (span_means blocks s t Less h.0, all_below blocks s spans h.1)

ascending_from_strict : (blocks : List (List ℕ)) (spans : List Span) → IsStrictlySortedBy (span_cmp blocks) spans
    → IsAscending (entries_at blocks spans)
unfolding IsStrictlySortedBy
ascending_from_strict blocks [] h = tt
ascending_from_strict blocks (s ∷ spans) h = (all_below blocks s spans h.0, ascending_from_strict blocks spans h.1)

pub settled_ascending : (blocks : List (List ℕ)) (ys zs : List Span) → IsSorted (span_cmp blocks) ys
    → zs ≡ dedup (eq_by_cmp (span_cmp blocks)) ys → IsAscending (entries_at blocks zs)
settled_ascending blocks ys zs sorted is =
    ascending_from_strict blocks zs
    (subst (λ (l : List Span). IsStrictlySortedBy (span_cmp blocks) l) (sym is)
    (IsStrictlySortedBy-dedup (span_cmp_total blocks) (λ x y. refl) ys sorted))

-- ---- members

has_at : (blocks : List (List ℕ)) (spans : List Span) (s : Span) (k : ℕ) → k < length spans
    → slice_index_or spans k s ≡ s → Has (entries_at blocks spans) (entry_at blocks s)
has_at blocks [] s k within e = absurd (omega (arith, within))
has_at blocks (x ∷ xs) s zero within e = inl (ap (entry_at blocks) e)
has_at blocks (x ∷ xs) s (suc j) within e = inr (has_at blocks xs s j (omega (arith, within)) e)

has_from : (blocks : List (List ℕ)) (spans : List Span) (s : Span) → Contains spans s
    → Has (entries_at blocks spans) (entry_at blocks s)
has_from blocks spans s h = has_at blocks spans s h.0 h.1 h.2

of_has : (blocks : List (List ℕ)) (spans : List Span) (e : Entry) → Has (entries_at blocks spans) e
    → (s : Span) × Contains spans s × (entry_at blocks s ≡ e)
of_has blocks [] e h = absurd h
of_has blocks (x ∷ xs) e (inl same) = (x, (zero, omega arith, refl), same)
of_has blocks (x ∷ xs) e (inr more) =
    let r = of_has blocks xs e more in
    (r.0, (suc r.1.0, omega (arith, r.1.1), r.1.2), r.2)

pub settled_same : (blocks : List (List ℕ)) (xs ys zs : List Span) → IsPermutation xs ys
    → zs ≡ dedup (eq_by_cmp (span_cmp blocks)) ys → HaveSame (entries_at blocks xs) (entries_at blocks zs)
settled_same blocks xs ys zs moved is e = (
  λ h.
      let r = of_has blocks zs e h in
      let kept : Contains (dedup (eq_by_cmp (span_cmp blocks)) ys) r.0 =
      subst (λ (l : List Span). Contains l r.0) is r.1 in
      let before = Contains-permutation ys xs r.0 (IsPermutation-sym xs ys moved)
      (Contains-from_dedup (eq_by_cmp (span_cmp blocks)) ys r.0 kept) in
      subst (Has (entries_at blocks xs)) r.2 (has_from blocks xs r.0 before),
  λ h.
      let r = of_has blocks xs e h in
      let found = Any-dedup (eq_by_cmp_equiv (span_cmp_total blocks)) ys r.0 (Contains-permutation xs ys r.0 moved r.1) in
      let same : entry_at blocks r.0 ≡ entry_at blocks found.1 =
      span_means blocks r.0 found.1 Equal
      (is_equal (span_cmp blocks r.0 found.1) found.4) in
      let shown : Has (entries_at blocks (dedup (eq_by_cmp (span_cmp blocks)) ys)) (entry_at blocks found.1) =
      has_at blocks (dedup (eq_by_cmp (span_cmp blocks)) ys) found.1 found.0 found.2 found.3 in
      subst (λ (l : List Span). Has (entries_at blocks l) e) (sym is)
      (subst (Has (entries_at blocks (dedup (eq_by_cmp (span_cmp blocks)) ys))) (sym same ∙ r.2) shown),
)

-- ---- what holds of all spans

all_contained : (P : Span → Type 0) (xs : List Span) (x : Span) (k : ℕ) → AllByRecursion P xs → k < length xs
    → slice_index_or xs k x ≡ x → P x
all_contained P [] x k all within e = absurd (omega (arith, within))
all_contained P (y ∷ ys) x zero all within e = subst P e all.0
all_contained P (y ∷ ys) x (suc j) all within e = all_contained P ys x j all.1 (omega (arith, within)) e

all_where : (P : Span → Type 0) (xs : List Span)
    → ((x : Span) (k : ℕ) → k < length xs → slice_index_or xs k x ≡ x → P x) → AllByRecursion P xs
all_where P [] each = tt
all_where P (y ∷ ys) each =
    (each y zero (omega arith) refl, all_where P ys (λ x k within e. each x (suc k) (omega (arith, within)) e))

pub settled_all : (P : Span → Type 0) (blocks : List (List ℕ)) (xs ys zs : List Span) → IsPermutation xs ys
    → zs ≡ dedup (eq_by_cmp (span_cmp blocks)) ys → AllByRecursion P xs → AllByRecursion P zs
settled_all P blocks xs ys zs moved is all =
    subst (AllByRecursion P) (sym is)
    (all_where P (dedup (eq_by_cmp (span_cmp blocks)) ys)
    (λ x k within e.
    let before = Contains-permutation ys xs x (IsPermutation-sym xs ys moved)
    (Contains-from_dedup (eq_by_cmp (span_cmp blocks)) ys x (k, within, e)) in
    all_contained P xs x before.0 all before.1 before.2))

-- ---- a span behind the others

all_behind : (P : Span → Type 0) (xs : List Span) (x : Span) → AllByRecursion P xs → P x
    → AllByRecursion P (xs ++ x ∷ [])
all_behind P [] x all one = (one, tt)
all_behind P (y ∷ ys) x all one = (all.0, all_behind P ys x all.1 one)

-- spans stay within blocks that keep their entries
pub within_kept : (old new : List (List ℕ)) (spans : List Span) → Keeps old new → AllByRecursion (IsWithin old) spans
    → AllByRecursion (IsWithin new) spans
within_kept old new [] keeps all = tt
within_kept old new (s ∷ spans) keeps all = ((keeps s all.0).0, within_kept old new spans keeps all.1)

pub within_pushed : (old new : List (List ℕ)) (spans : List Span) (s : Span) → Keeps old new
    → AllByRecursion (IsWithin old) spans → IsWithin new s → AllByRecursion (IsWithin new) (spans ++ s ∷ [])
within_pushed old new spans s keeps all one =
    all_behind (IsWithin new) spans s (within_kept old new spans keeps all) one

pub entries_pushed : (old new : List (List ℕ)) (spans : List Span) (s : Span) (e : Entry) → Keeps old new
    → AllByRecursion (IsWithin old) spans → entry_at new s ≡ e
    → entries_at new (spans ++ s ∷ []) ≡ entries_at old spans ++ e ∷ []
entries_pushed old new spans s e keeps all is =
    map-append (entry_at new) spans (s ∷ [])
    ∙ ap (λ (es : List Entry). es ++ entry_at new s ∷ []) (entries_stay old new spans keeps all)
    ∙ ap (λ (x : Entry). entries_at old spans ++ x ∷ []) is
