-- Elements by id: each list of distinct ids has one such order.
use Rattle.std.proofs.Common.{◌≡◌, ℕ, List, [], ◌∷◌, refl, sym, ap, subst, ◌∙◌, inl, inr, ◌⊎◌}
use Rattle.std.specs.List.{AllByRecursion}
use Rattle.std.specs.List.Sorted.{IsPermutation}
use Rattle.std.specs.Cmp.Lexicographic.{slice_cmp}
use Rattle.std.specs.Ordering.{nat_cmp}
use Rattle.std.specs.declared.cmp.Ordering.{Ordering}
use Rattle.std.specs.declared.cmp.Ordering.TheVariants.{Less, Equal, Greater}
use Rattle.std.proofs.lemmas.List.Elements.{All-from_recursion, recursion_from_All}
use Rattle.std.proofs.lemmas.List.Sorted.{All-permutation, IsPermutation-cons, IsPermutation-middle, IsPermutation-refl}
use Rattle.std.proofs.lemmas.List.Sorted.{IsPermutation-sym, IsPermutation-trans}
use Rattle.syslog_value.specs.Order.{OctetsBelow}
use Rattle.syslog_value.specs.Parts.{ElementParts, IsById}
use Rattle.syslog_value.specs.Structured.{HasId}
use Rattle.syslog_value.proofs.Octets.{octets_ranked, below_itself, below_trans}
use Rattle.syslog_reading.specs.Faults.{AreDistinct}

-- ---- what holds of each element

weaker : (P Q : ElementParts → Type 0) → ((e : ElementParts) → P e → Q e) → (es : List ElementParts)
    → AllByRecursion P es → AllByRecursion Q es
weaker P Q each [] h = tt
weaker P Q each (e ∷ es) h = (each e h.0, weaker P Q each es h.1)

pub all_permuted : (P : ElementParts → Type 0) (es fs : List ElementParts) → IsPermutation es fs → AllByRecursion P es
    → AllByRecursion P fs
all_permuted P es fs p h = recursion_from_All P fs (All-permutation P es fs p (All-from_recursion P es h))

-- ---- there is an order

ranked : (xs ys : List ℕ) (o : Ordering) → o ≡ slice_cmp nat_cmp xs ys
    → OctetsBelow xs ys ⊎ ((xs ≡ ys) ⊎ OctetsBelow ys xs)
ranked xs ys Less h = inl (octets_ranked xs ys Less h)
ranked xs ys Equal h = inr (inl (octets_ranked xs ys Equal h))
ranked xs ys Greater h = inr (inr (octets_ranked xs ys Greater h))

abbrev Sorted : List ElementParts → Type 0
Sorted es = (fs : List ElementParts) × IsPermutation es fs × IsById fs

inserted : (e : ElementParts) (fs : List ElementParts) → IsById fs → ¬ (HasId e.id fs) → Sorted (e ∷ fs)
inserted e [] by_id none = (e ∷ [], IsPermutation-refl (e ∷ []), (tt, tt))
inserted e (f ∷ fs) by_id none = elim (ranked e.id f.id (slice_cmp nat_cmp e.id f.id) refl) [
  | inl less ↦
      let all = weaker (λ g. OctetsBelow f.id g.id) (λ g. OctetsBelow e.id g.id)
      (λ g above. below_trans e.id f.id g.id less above) fs by_id.0 in
      (e ∷ f ∷ fs, IsPermutation-refl (e ∷ f ∷ fs), ((less, all), by_id))
  | inr (inl same) ↦ absurd (none (inl (sym same)))
  | inr (inr more) ↦
      let r = inserted e fs by_id.1 (λ h. none (inr h)) in
      let moved = IsPermutation-trans (e ∷ f ∷ fs) (f ∷ e ∷ fs) (f ∷ r.0) (IsPermutation-middle (e ∷ []) f fs)
      (IsPermutation-cons f (e ∷ fs) r.0 r.1) in
      (f ∷ r.0, moved, (all_permuted (λ g. OctetsBelow f.id g.id) (e ∷ fs) r.0 r.1 (more, by_id.0), r.2))
]

apart_id : (id : List ℕ) (es : List ElementParts) → ¬ (HasId id es) → AllByRecursion (λ e. ¬ (e.id ≡ id)) es
apart_id id [] none = tt
apart_id id (e ∷ es) none = (λ same. none (inl same), apart_id id es (λ h. none (inr h)))

no_id : (id : List ℕ) (es : List ElementParts) → AllByRecursion (λ e. ¬ (e.id ≡ id)) es → ¬ (HasId id es)
no_id id [] all h = h
no_id id (e ∷ es) all (inl same) = all.0 same
no_id id (e ∷ es) all (inr h) = no_id id es all.1 h

-- elements with distinct ids can be put in order
pub sorted : (es : List ElementParts) → AreDistinct es → (fs : List ElementParts) × IsPermutation es fs × IsById fs
sorted [] distinct = ([], IsPermutation-refl [], tt)
sorted (e ∷ es) distinct =
    let r = sorted es distinct.1 in
    let none = no_id e.id r.0 (all_permuted (λ f. ¬ (f.id ≡ e.id)) es r.0 r.1 (apart_id e.id es distinct.0)) in
    let s = inserted e r.0 r.2 none in
    (s.0, IsPermutation-trans (e ∷ es) (e ∷ r.0) s.0 (IsPermutation-cons e es r.0 r.1) s.1, s.2)

-- elements in order have distinct ids
pub distinct_by_id : (es : List ElementParts) → IsById es → AreDistinct es
distinct_by_id [] by_id = tt
distinct_by_id (e ∷ es) by_id = (
  no_id e.id es (weaker (λ f. OctetsBelow e.id f.id) (λ f. ¬ (f.id ≡ e.id))
      (λ f above same. below_itself e.id (subst (OctetsBelow e.id) same above)) es by_id.0),
  distinct_by_id es by_id.1,
)

-- ---- there is but one

abbrev Member : List ElementParts → ElementParts → Type 0
Member [] e = ⊥
Member (f ∷ fs) e = (e ≡ f) ⊎ Member fs e

members : (es fs : List ElementParts) → ((e : ElementParts) → Member es e → Member fs e) → AllByRecursion (Member fs) es
members [] fs h = tt
members (e ∷ es) fs h = (h e (inl refl), members es fs (λ f k. h f (inr k)))

member_holds : (P : ElementParts → Type 0) (es : List ElementParts) (e : ElementParts) → AllByRecursion P es
    → Member es e → P e
member_holds P [] e h k = absurd k
member_holds P (f ∷ es) e h (inl k) = subst P (sym k) h.0
member_holds P (f ∷ es) e h (inr k) = member_holds P es e h.1 k

not_prefix : (f g : ElementParts) (gs es : List ElementParts) → f ≡ g → AllByRecursion (λ e. OctetsBelow f.id e.id) es
    → AllByRecursion (Member (g ∷ gs)) es → AllByRecursion (Member gs) es
not_prefix f g gs [] same above h = tt
not_prefix f g gs (e ∷ es) same above ((inl k), h) =
    absurd (below_itself e.id (subst (λ (x : ElementParts). OctetsBelow x.id e.id) (same ∙ sym k) above.0))
not_prefix f g gs (e ∷ es) same above ((inr k), h) = (k, not_prefix f g gs es same above.1 h)

same_members : (fs gs : List ElementParts) → IsById fs → IsById gs → AllByRecursion (Member gs) fs
    → AllByRecursion (Member fs) gs → fs ≡ gs
same_members [] [] a b h k = refl
same_members [] (g ∷ gs) a b h k = absurd k.0
same_members (f ∷ fs) [] a b h k = absurd h.0
same_members (f ∷ fs) (g ∷ gs) a b h k =
    let first : f ≡ g = elim h.0 [
      | inl same ↦ same
      | inr inner ↦ elim k.0 [
        | inl same ↦ sym same
        | inr other ↦
            absurd (below_itself f.id (below_trans f.id g.id f.id
            (member_holds (λ e. OctetsBelow f.id e.id) fs g a.0 other)
            (member_holds (λ e. OctetsBelow g.id e.id) gs f b.0 inner)))
      ]
    ] in
    ap (λ (e : ElementParts). e ∷ fs) first
    ∙ ap (λ (es : List ElementParts). g ∷ es)
    (same_members fs gs a.1 b.1 (not_prefix f g gs fs first a.0 h.1) (not_prefix g f fs gs (sym first) b.0 k.1))

-- two orders of one list are one
pub one_order : (es fs gs : List ElementParts) → IsPermutation es fs → IsPermutation es gs → IsById fs → IsById gs
    → fs ≡ gs
one_order es fs gs p q a b =
    let there : AllByRecursion (Member gs) es =
    all_permuted (Member gs) gs es (IsPermutation-sym es gs q) (members gs gs (λ e k. k)) in
    let here : AllByRecursion (Member fs) es =
    all_permuted (Member fs) fs es (IsPermutation-sym es fs p) (members fs fs (λ e k. k)) in
    same_members fs gs a b (all_permuted (Member gs) es fs p there) (all_permuted (Member fs) es gs q here)
