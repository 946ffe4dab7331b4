-- Facts on parts whose ranges ascend.
use Rattle.std.proofs.Common.{◌≡◌, ℕ, zero, suc, ◌-◌, ◌<◌, ◌≤◌, List, [], ◌∷◌, ◌++◌, inl, inr, ap, refl, subst, sym, take, drop}
use Rattle.std.proofs.Common.{arith, get_or, length}
use Rattle.std.specs.Prelude.{Option, None, Some}
use Rattle.std.specs.List.{AllByRecursion}
use Rattle.std.proofs.lemmas.List.{take_all}
use Rattle.archive_text.specs.Entries.{Entry, Has, IsBelow}
use Rattle.archive_text.proofs.Ascending.{ascending_join}
use Rattle.archive_text.proofs.Members.{all_append, all_left, all_right, all_weaker, has_either, has_left, has_right}
use Rattle.archive_text.proofs.Members.{of_all, of_member}
use Rattle.archive_text.proofs.Orders.{below_irreflexive, below_total, below_transitive}
use Rattle.reconcile.specs.Ascending.{DoAscend, IsBeyond}
use Rattle.reconcile.specs.Ranges.{AreThose, Covers, IsInside, IsUnder}
use Rattle.reconcile.specs.declared.part.Part.{Part}
use Rattle.reconcile.proofs.Found.{split_same}
use Rattle.reconcile.proofs.Parts.{covers_either, covers_left, covers_right, under_lower}

-- ---- the order of what is covered

below_then : (x y z : Entry) → IsBelow x y → ¬ (IsBelow z y) → IsBelow x z
below_then x y z h n =
    elim (below_total y z) [
      | inl less ↦ below_transitive x y z h less
      | inr (inl same) ↦ subst (IsBelow x) same h
      | inr (inr more) ↦ absurd (n more)
    ]

under_then : (h : Option Entry) (x z : Entry) → IsUnder h x → ¬ (IsUnder h z) → IsBelow x z
under_then None x z u n = absurd (n tt)
under_then (Some h) x z u n = below_then x h z u n

-- what is under an end is below all that is covered beyond it
pub beyond_above : (end : Option Entry) (ps : List Part) (x y : Entry) → IsBeyond end ps → DoAscend ps → IsUnder end x
    → Covers ps y → IsBelow x y
beyond_above end [] x y h k u c = absurd c
beyond_above end (p ∷ ps) x y h k u (inl i) =
    below_then x p.range.low y (under_then end x p.range.low u h) i.0
beyond_above end (p ∷ ps) x y h k u (inr c) =
    beyond_above p.range.high ps x y k.1 k.2
    (under_lower p.range.high x p.range.low k.0 (under_then end x p.range.low u h)) c

pub ascend_across : (ps qs : List Part) (x y : Entry) → DoAscend (ps ++ qs) → Covers ps x → Covers qs y → IsBelow x y
ascend_across [] qs x y h c d = absurd c
ascend_across (p ∷ ps) qs x y h (inl i) d =
    beyond_above p.range.high (ps ++ qs) x y h.1 h.2 i.1 (covers_right ps qs y d)
ascend_across (p ∷ ps) qs x y h (inr c) d = ascend_across ps qs x y h.2 c d

taken_beyond : (end : Option Entry) (ps : List Part) (i : ℕ) → IsBeyond end ps → IsBeyond end (take i ps)
taken_beyond end ps zero h = tt
taken_beyond end [] (suc i) h = tt
taken_beyond end (p ∷ ps) (suc i) h = h

pub taken_ascend : (ps : List Part) (i : ℕ) → DoAscend ps → DoAscend (take i ps)
taken_ascend ps zero h = tt
taken_ascend [] (suc i) h = tt
taken_ascend (p ∷ ps) (suc i) h = (h.0, taken_beyond p.range.high ps i h.1, taken_ascend ps i h.2)

-- ---- the entries of one range more

pub those_of_more : (ps : List Part) (p : Part) (others xs ys inside zs : List Entry) → DoAscend (ps ++ p ∷ [])
    → AreThose (λ x. Covers ps x × ¬ (Has others x)) xs ys → AreThose (IsInside p.range) xs inside
    → AreThose (λ x. ¬ (Has others x)) inside zs
    → AreThose (λ x. Covers (ps ++ p ∷ []) x × ¬ (Has others x)) xs (ys ++ zs)
those_of_more ps p others xs ys inside zs asc h i k = record {
  ascending = ascending_join ys zs h.ascending k.ascending
      (λ x y a b. ascend_across ps (p ∷ []) x y asc ((h.members x).0 a).1.0
      (inl ((i.members y).0 ((k.members y).0 b).0).1));
  members = λ x. (
    λ m. elim (has_either ys zs x m) [
      | inl l ↦ let t = (h.members x).0 l in (t.0, (covers_left ps (p ∷ []) x t.1.0, t.1.1))
      | inr r ↦
          let t = (k.members x).0 r in
          let s = (i.members x).0 t.0 in
          (s.0, (covers_right ps (p ∷ []) x (inl s.1), t.1))
    ],
    λ t. elim (covers_either ps (p ∷ []) x t.1.0) [
      | inl l ↦ has_left ys zs x ((h.members x).1 (t.0, (l, t.1.1)))
      | inr r ↦ elim r [
        | inl here ↦ has_right ys zs x ((k.members x).1 ((i.members x).1 (t.0, here), t.1.1))
        | inr none ↦ absurd none
      ]
    ],
  );
}

-- ---- places that are covered one part after another

pub first_rest : (ps : List Part) (d : Part) → 1 ≤ length ps → ps ≡ get_or ps 0 d ∷ take (length ps - 1) (drop 1 ps)
first_rest [] d some = absurd (omega arith)
first_rest (p ∷ ps) d some =
    let all : length ps ≤ length (p ∷ ps) - 1 = omega arith in
    ap (λ (l : List Part). p ∷ l) (sym (take_all (length (p ∷ ps) - 1) ps all))

pub none_covered : (ps : List Part) (xs : List Entry) → length ps < 1 → AllByRecursion (Covers ps) xs → length xs ≡ 0
none_covered ps [] none h = refl
none_covered [] (x ∷ xs) none h = absurd h.0
none_covered (p ∷ ps) (x ∷ xs) none h = absurd (omega arith)

pub all_covered : (p : Part) (ps : List Part) (xs : List Entry) (i : ℕ)
    → AllByRecursion (IsUnder p.range.high) (take i xs)
    → AllByRecursion (λ x. ¬ (IsBelow x p.range.low)) (take i xs) → AllByRecursion (Covers ps) (drop i xs)
    → AllByRecursion (Covers (p ∷ ps)) xs
all_covered p ps xs i under above more =
    subst (AllByRecursion (Covers (p ∷ ps))) (split_same xs i)
    (all_append (Covers (p ∷ ps)) (take i xs) (drop i xs)
    (of_all (Covers (p ∷ ps)) (take i xs)
    (λ x m. inl (
      of_member (λ y. ¬ (IsBelow y p.range.low)) (take i xs) x above m,
      of_member (IsUnder p.range.high) (take i xs) x under m,
    )))
    (all_weaker (Covers ps) (Covers (p ∷ ps)) (λ x c. inr c) (drop i xs) more))

-- what is under the end of the first part is in its range
pub front_inside : (p : Part) (ps : List Part) (xs : List Entry) (i : ℕ) → DoAscend (p ∷ ps)
    → AllByRecursion (IsUnder p.range.high) (take i xs) → AllByRecursion (Covers (p ∷ ps)) xs
    → AllByRecursion (λ x. ¬ (IsBelow x p.range.low)) (take i xs)
front_inside p ps xs i asc under all =
    let front = all_left (Covers (p ∷ ps)) (take i xs) (drop i xs)
    (subst (AllByRecursion (Covers (p ∷ ps))) (sym (split_same xs i)) all) in
    of_all (λ x. ¬ (IsBelow x p.range.low)) (take i xs)
    (λ x m. elim (of_member (Covers (p ∷ ps)) (take i xs) x front m) [
      | inl here ↦ here.0
      | inr more ↦ absurd (below_irreflexive x
          (beyond_above p.range.high ps x x asc.1 asc.2 (of_member (IsUnder p.range.high) (take i xs) x under m) more))
    ])

-- what is not under it is in the range of another
pub back_covered : (p : Part) (ps : List Part) (xs : List Entry) (i : ℕ)
    → AllByRecursion (λ x. ¬ (IsUnder p.range.high x)) (drop i xs) → AllByRecursion (Covers (p ∷ ps)) xs
    → AllByRecursion (Covers ps) (drop i xs)
back_covered p ps xs i over all =
    let back = all_right (Covers (p ∷ ps)) (take i xs) (drop i xs)
    (subst (AllByRecursion (Covers (p ∷ ps))) (sym (split_same xs i)) all) in
    of_all (Covers ps) (drop i xs)
    (λ x m. elim (of_member (Covers (p ∷ ps)) (drop i xs) x back m) [
      | inl here ↦ absurd (of_member (λ y. ¬ (IsUnder p.range.high y)) (drop i xs) x over m here.1)
      | inr more ↦ more
    ])
