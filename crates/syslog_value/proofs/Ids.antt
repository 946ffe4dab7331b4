-- Elements in the order of their ids.
use Rattle.std.proofs.Common.{◌-◌, ◌+◌, ◌≡◌, ◌≢◌, true, false, ℕ, zero, suc, ◌<◌, ◌≤◌, inl, inr, refl, sym, subst}
use Rattle.std.proofs.Common.{arith, List, [], ◌∷◌, ◌++◌, length, take, drop, get_or, add-one, insert, Ok, Err}
use Rattle.std.specs.declared.cmp.Ordering.{Ordering}
use Rattle.std.specs.declared.cmp.Ordering.TheVariants.{Less, Equal, Greater}
use Rattle.std.specs.Cmp.Lexicographic.{slice_cmp}
use Rattle.std.specs.List.{AllByRecursion, AllWithin, AllAdjacentBelow}
use Rattle.std.specs.List.Sorted.{IsNonDecreasingBy, IsBinarySearchResult, IsSortedByKey, IsPermutation}
use Rattle.std.specs.Ordering.{nat_cmp, ordering_index, is_lt, on}
use Rattle.std.proofs.lemmas.Bool.{cases_lt}
use Rattle.std.proofs.lemmas.Cmp.{nat_list_eq_equiv, on_equiv}
use Rattle.std.proofs.lemmas.List.{take-append-drop}
use Rattle.std.proofs.lemmas.Map.Keys.{IsDistinct-IsPermutation, IsDistinct-cons, IsDistinct-head, IsDistinct-tail}
use Rattle.std.proofs.lemmas.Map.Made.{IsDistinct-from_count}
use Rattle.std.proofs.lemmas.Slice.Eq.{bytes_eq-Decides}
use Rattle.std.specs.Str.{bytes_eq}
use Rattle.std.proofs.lemmas.List.Elements.{All-from_recursion, pair_read}
use Rattle.syslog_value.specs.Order.{OctetsBelow}
use Rattle.syslog_value.specs.Parts.{ElementParts, IsById}
use Rattle.syslog_value.specs.Structured.{HasId, AddsElement, HaveDistinctIds, HasEqualNeighbours}
use Rattle.syslog_value.proofs.Octets.{octets_ranked, below_itself, below_trans, less_from_below}

-- ---- lists by position and by recursion

within_take : {X : Type 0} (P : X → Type 0) (i : ℕ) (xs : List X) → i ≤ length xs → AllWithin P xs 0 i
    → AllByRecursion P (take i xs)
within_take P zero xs h all = tt
within_take P (suc i) [] h all = tt
within_take P (suc i) (x ∷ xs) h all = (
  all 0 x (omega arith) (omega arith),
  within_take P i xs (omega arith)
      (λ k d low high. all (suc k) d (omega arith) (omega arith)),
)

within_drop : {X : Type 0} (P : X → Type 0) (i : ℕ) (xs : List X) → AllWithin P xs i (length xs)
    → AllByRecursion P (drop i xs)
within_drop P zero [] all = tt
within_drop P zero (x ∷ xs) all = (
  all 0 x (omega arith) (omega arith),
  within_drop P zero xs (λ k d low high. all (suc k) d (omega arith) (omega arith)),
)
within_drop P (suc i) [] all = tt
within_drop P (suc i) (x ∷ xs) all = within_drop P i xs (λ k d low high. all (suc k) d (omega arith) (omega arith))

weaker : {X : Type 0} (P Q : X → Type 0) (each : (x : X) → P x → Q x) (xs : List X) → AllByRecursion P xs
    → AllByRecursion Q xs
weaker P Q each [] all = tt
weaker P Q each (x ∷ xs) all = (each x all.0, weaker P Q each xs all.1)

pub all_insert : {X : Type 0} (P : X → Type 0) (i : ℕ) (x : X) (xs : List X) → P x → AllByRecursion P xs
    → AllByRecursion P (take i xs ++ x ∷ drop i xs)
all_insert P zero x xs one all = (one, all)
all_insert P (suc i) x [] one all = (one, tt)
all_insert P (suc i) x (y ∷ ys) one all = (all.0, all_insert P i x ys one all.1)

-- ---- elements by id

by_id_insert : (i : ℕ) (e : ElementParts) (es : List ElementParts) → IsById es
    → AllByRecursion (λ f. OctetsBelow f.id e.id) (take i es)
    → AllByRecursion (λ f. OctetsBelow e.id f.id) (drop i es) → IsById (take i es ++ e ∷ drop i es)
by_id_insert zero e es sorted below above = (above, sorted)
by_id_insert (suc i) e [] sorted below above = (tt, tt)
by_id_insert (suc i) e (f ∷ fs) sorted below above =
    (all_insert (λ g. OctetsBelow f.id g.id) i e fs below.0 sorted.0, by_id_insert i e fs sorted.1 below.1 above)

by_id_at : (es : List ElementParts) (i j : ℕ) (d : ElementParts) → IsById es → i < j → j < length es
    → OctetsBelow (get_or es i d).id (get_or es j d).id
by_id_at [] i j d sorted h within = absurd (omega arith)
by_id_at (e ∷ es) i zero d sorted h within = absurd (omega arith)
by_id_at (e ∷ es) zero (suc j) d sorted h within =
    All-from_recursion (λ f. OctetsBelow e.id f.id) es sorted.0 j d (omega arith)
by_id_at (e ∷ es) (suc i) (suc j) d sorted h within = by_id_at es i j d sorted.1 (omega arith) (omega arith)

abbrev rank : List ℕ → ElementParts → ℕ
rank id e = ordering_index (slice_cmp nat_cmp e.id id)

rank_below : (id : List ℕ) (e f : ElementParts) (o p : Ordering) → o ≡ slice_cmp nat_cmp e.id id
    → p ≡ slice_cmp nat_cmp f.id id → OctetsBelow e.id f.id
    → ordering_index o ≤ ordering_index p
rank_below id e f o Less is_o is_p h =
    let less : o ≡ Less = less_from_below e.id id o is_o (below_trans e.id f.id id h (octets_ranked f.id id Less is_p))
    in rw less (omega arith)
rank_below id e f o Equal is_o is_p h =
    let same : f.id ≡ id = octets_ranked f.id id Equal is_p in
    let less : o ≡ Less = less_from_below e.id id o is_o (subst (λ l. OctetsBelow e.id l) same h) in
    rw less (omega arith)
rank_below id e f Less Greater is_o is_p h = omega arith
rank_below id e f Equal Greater is_o is_p h = omega arith
rank_below id e f Greater Greater is_o is_p h = omega arith

nondecreasing : (id : List ℕ) (es : List ElementParts) → IsById es → IsNonDecreasingBy (rank id) es
nondecreasing id es sorted i j d h within =
    elim (cases_lt i j) [
      | inl less ↦ rank_below id (get_or es i d) (get_or es j d) _ _ refl refl (by_id_at es i j d sorted less within)
      | inr not_less ↦ let same : i ≡ j = omega arith in rw same (omega arith)
    ]

has_at : (id : List ℕ) (es : List ElementParts) (i : ℕ) (d : ElementParts) → i < length es → (get_or es i d).id ≡ id
    → HasId id es
has_at id [] i d within same = absurd (omega arith)
has_at id (e ∷ es) zero d within same = inl same
has_at id (e ∷ es) (suc i) d within same = inr (has_at id es i d (omega arith) same)

-- the search found the id
pub id_found : (e : ElementParts) (es : List ElementParts) (i : ℕ) → i < length es
    → IsBinarySearchResult (λ f. slice_cmp nat_cmp f.id e.id) es (Ok i) → HasId e.id es
id_found e es i within found = has_at e.id es i e within (octets_ranked (get_or es i e).id e.id Equal (sym (found e)))

-- the element fits in at the offset: what comes before has ids below, and what comes after above
pub record FitsAt (e : ElementParts) (es : List ElementParts) (i : ℕ) : Type 0 where
  pub below : AllByRecursion (λ f. OctetsBelow f.id e.id) (take i es)
  pub above : AllByRecursion (λ f. OctetsBelow e.id f.id) (drop i es)

-- the search found no such id, but the offset at which to insert it
pub offset_found : (e : ElementParts) (es : List ElementParts) (i : ℕ) → i ≤ length es → IsById es
    → IsBinarySearchResult (λ f. slice_cmp nat_cmp f.id e.id) es (Err i) → FitsAt e es i
offset_found e es i within sorted found =
    let point = found (nondecreasing e.id es sorted) in
    record {
      below = weaker _ _ (λ f less. octets_ranked f.id e.id Less (sym less)) (take i es)
          (within_take _ i es within point.0);
      above = weaker _ _ (λ f greater. octets_ranked f.id e.id Greater (sym greater)) (drop i es)
          (within_drop _ i es point.1);
    }

absent : (e : ElementParts) (es : List ElementParts) (i : ℕ) → AllByRecursion (λ f. OctetsBelow f.id e.id) (take i es)
    → AllByRecursion (λ f. OctetsBelow e.id f.id) (drop i es) → ¬ HasId e.id es
absent e [] i below above has = has
absent e (f ∷ fs) zero below above has =
    elim has [
      | inl same ↦ below_itself e.id (subst (λ l. OctetsBelow e.id l) same above.0)
      | inr more ↦ absent e fs zero tt above.1 more
    ]
absent e (f ∷ fs) (suc i) below above has =
    elim has [
      | inl same ↦ below_itself e.id (subst (λ l. OctetsBelow l e.id) same below.0)
      | inr more ↦ absent e fs i below.1 above more
    ]

pub fits_absent : (e : ElementParts) (es : List ElementParts) (i : ℕ) → FitsAt e es i → ¬ HasId e.id es
fits_absent e es i fits = absent e es i fits.below fits.above

pub fits_by_id : (e : ElementParts) (es : List ElementParts) (i : ℕ) → FitsAt e es i → IsById es
    → IsById (insert es i e)
fits_by_id e es i fits sorted = by_id_insert i e es sorted fits.below fits.above

pub fits_adds : (e : ElementParts) (es new : List ElementParts) (i : ℕ) → FitsAt e es i → IsById es
    → new ≡ insert es i e → AddsElement e es new
fits_adds e es new i fits sorted is = record {
  before = take i es;
  after = drop i es;
  old_is = sym (take-append-drop i es);
  new_is = is;
  by_id = rw is (fits_by_id e es i fits sorted);
}

-- ---- elements in any order

-- neighbours that ascend ascend all together
by_id_from_adjacent : (es : List ElementParts)
    → ((k : ℕ) (d : ElementParts) → suc k < length es → OctetsBelow (get_or es k d).id (get_or es (suc k) d).id)
    → IsById es
by_id_from_adjacent [] adjacent = tt
by_id_from_adjacent (e ∷ []) adjacent = (tt, tt)
by_id_from_adjacent (e ∷ f ∷ fs) adjacent =
    let first : OctetsBelow e.id f.id = adjacent 0 e (omega arith) in
    let rest = by_id_from_adjacent (f ∷ fs) (λ k d h. adjacent (suc k) d (omega arith)) in
    ((first, weaker _ _ (λ g above. below_trans e.id f.id g.id first above) fs rest.0), rest)

not_less : (e f : ElementParts) (o : Ordering) → o ≡ slice_cmp nat_cmp f.id e.id → is_lt o ≡ false → e.id ≢ f.id
    → OctetsBelow e.id f.id
not_less e f Less is never differ = cc
not_less e f Equal is never differ = absurd (differ (sym (octets_ranked f.id e.id Equal is)))
not_less e f Greater is never differ = octets_ranked f.id e.id Greater is

pub sorted_by_id : (es : List ElementParts) → IsSortedByKey (λ e. e.id) (slice_cmp nat_cmp) es
    → AllAdjacentBelow (λ e f. e.id ≢ f.id) es (length es) → IsById es
sorted_by_id es sorted differ =
    by_id_from_adjacent es (λ k d h.
    let within : k + 1 < length es = omega arith in
    let below = not_less (get_or es k d) (get_or es (k + 1) d) _ refl (sorted k d (omega arith) within)
    (differ k d within) in
    subst (λ n. OctetsBelow (get_or es k d).id (get_or es n d).id) (add-one k) below)

ids_unequal : (e f : ElementParts) → OctetsBelow e.id f.id → bytes_eq e.id f.id ≡ false
ids_unequal e f below =
    elim (bytes_eq e.id f.id) as (λ b. bytes_eq e.id f.id ≡ b → bytes_eq e.id f.id ≡ false) [
      | true ↦ λ is. absurd (below_itself f.id
          (subst (λ l. OctetsBelow l f.id) ((bytes_eq-Decides e.id f.id).0 is) below))
      | false ↦ λ is. is
    ] refl

pub by_id_distinct : (es : List ElementParts) → IsById es → HaveDistinctIds es
by_id_distinct [] sorted = IsDistinct-from_count (on_equiv (λ e. e.id) nat_list_eq_equiv) [] refl
by_id_distinct (e ∷ es) sorted =
    IsDistinct-cons (on (λ f. f.id) bytes_eq) e es (weaker _ _ (λ f above. ids_unequal e f above) es sorted.0)
    (by_id_distinct es sorted.1)

neighbours_differ : (es : List ElementParts) (k : ℕ) (d : ElementParts) → HaveDistinctIds es → suc k < length es
    → (get_or es k d).id ≢ (get_or es (suc k) d).id
neighbours_differ [] k d distinct h same = omega arith
neighbours_differ (e ∷ []) k d distinct h same = omega arith
neighbours_differ (e ∷ f ∷ fs) zero d distinct h same =
    let head = IsDistinct-head (on (λ g. g.id) bytes_eq) e (f ∷ fs) distinct in
    let equal : bytes_eq e.id f.id ≡ true = (bytes_eq-Decides e.id f.id).1 same in
    let unequal : bytes_eq e.id f.id ≡ false = head.0 in
    cc
neighbours_differ (e ∷ f ∷ fs) (suc k) d distinct h same =
    neighbours_differ (f ∷ fs) k d (IsDistinct-tail (on (λ g. g.id) bytes_eq) e (f ∷ fs) distinct) (omega arith) same

no_element : ElementParts
no_element = record { id = []; params = [] }

pub equal_neighbours : (es : List ElementParts) → HasEqualNeighbours es → ¬ HaveDistinctIds es
equal_neighbours es equal distinct =
    neighbours_differ es equal.offset no_element distinct (omega (arith, equal.within))
    (subst (λ n. (get_or es equal.offset no_element).id ≡ (get_or es n no_element).id) (add-one equal.offset)
    (equal.same no_element))

-- two neighbours that were read have one id
pub equal_from_reads : (es : List ElementParts) (i : ℕ) (x y : ElementParts) → 1 ≤ i → i < length es
    → x ≡ get_or es (i - 1) x → y ≡ get_or es i y
    → x.id ≡ y.id → HasEqualNeighbours es
equal_from_reads es i x y some within is_x is_y same = record {
  offset = i - 1;
  within = omega arith;
  same = λ d.
      let next : i ≡ i - 1 + 1 = omega arith in
      subst (λ n. (get_or es (i - 1) d).id ≡ (get_or es n d).id) next
      (pair_read es (λ e f. e.id ≡ f.id) (i - 1) i x y (omega arith) within is_x is_y same d);
}

-- elements in another order
pub distinct_permuted : (es fs : List ElementParts) → IsPermutation es fs → HaveDistinctIds es → HaveDistinctIds fs
distinct_permuted es fs = IsDistinct-IsPermutation _ (λ e f. nat_list_eq_equiv.symm e.id f.id) es fs
