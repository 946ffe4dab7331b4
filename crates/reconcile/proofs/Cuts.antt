-- Facts on a range that is cut at an entry.
use Rattle.std.proofs.Common.{◌≡◌, ℕ, ◌+◌, ◌-◌, ◌*◌, ◌/◌, ◌<◌, ◌≤◌, List, [], ◌∷◌, ◌++◌, sym, refl, ap, subst}
use Rattle.std.proofs.Common.{inl, inr, arith, length}
use Rattle.std.specs.Prelude.{Option, Some}
use Rattle.std.specs.List.{AllByRecursion, sum_by}
use Rattle.std.proofs.Math.Nat.{mul-le-mul_left}
use Rattle.std.proofs.lemmas.Nat.{div_below}
use Rattle.std.proofs.lemmas.List.{length-append}
use Rattle.std.proofs.lemmas.List.Sums.{sum_by-append, sum_by-cons}
use Rattle.archive_text.specs.Entries.{Entry, Has, IsBelow}
use Rattle.archive_text.proofs.Orders.{below_asymmetric, below_irreflexive, below_total, below_transitive}
use Rattle.archive_text.proofs.Ascending.{ascending_across, ascending_left, ascending_right}
use Rattle.archive_text.proofs.Members.{all_append, has_either, has_left, has_right, of_member}
use Rattle.reconcile.specs.Honest.{AreParts}
use Rattle.reconcile.specs.Ranges.{AreThose, Chain, IsInside, IsProper, IsSumOf, IsTold, IsUnder}
use Rattle.reconcile.specs.declared.range.Range.{Range}
use Rattle.reconcile.specs.declared.part.Part.{Part}
use Rattle.reconcile.proofs.Parts.{under_lower}

abbrev pub between : Entry → Option Entry → Range
between low high = record { low = low; high = high }

-- the entries before one of a range
pub cut_front : (low n : Entry) (high : Option Entry) (xs fs gs : List Entry)
    → AreThose (IsInside (between low high)) xs (fs ++ n ∷ gs)
    → AreThose (IsInside (between low (Some n))) xs fs
cut_front low n high xs fs gs h =
    let there : Has (fs ++ n ∷ gs) n = has_right fs (n ∷ gs) n (inl refl) in
    let at = (h.members n).0 there in
    record {
      ascending = ascending_left fs (n ∷ gs) h.ascending;
      members = λ x. (
        λ m.
            let t = (h.members x).0 (has_left fs (n ∷ gs) x m) in
            (t.0, (t.1.0, ascending_across fs (n ∷ gs) x n h.ascending m (inl refl))),
        λ t.
            let m = (h.members x).1 (t.0, (t.1.0, under_lower high x n at.1.1 t.1.1)) in
            elim (has_either fs (n ∷ gs) x m) [
              | inl l ↦ l
              | inr r ↦ absurd (elim r [
                | inl same ↦ below_irreflexive n (subst (λ y. IsBelow y n) (sym same) t.1.1)
                | inr more ↦ below_asymmetric x n t.1.1
                    (of_member (IsBelow n) gs x (ascending_right fs (n ∷ gs) h.ascending).0 more)
              ])
            ],
      );
    }

-- and those from it on
pub cut_back : (low n : Entry) (high : Option Entry) (xs fs gs : List Entry)
    → AreThose (IsInside (between low high)) xs (fs ++ n ∷ gs)
    → AreThose (IsInside (between n high)) xs (n ∷ gs)
cut_back low n high xs fs gs h =
    let there : Has (fs ++ n ∷ gs) n = has_right fs (n ∷ gs) n (inl refl) in
    let at = (h.members n).0 there in
    let ascending = ascending_right fs (n ∷ gs) h.ascending in
    record {
      ascending = ascending;
      members = λ x. (
        λ m.
            let t = (h.members x).0 (has_right fs (n ∷ gs) x m) in (
              t.0,
              (
                λ less. elim m [
                  | inl same ↦ below_irreflexive n (subst (λ y. IsBelow y n) (sym same) less)
                  | inr more ↦ below_asymmetric x n less (of_member (IsBelow n) gs x ascending.0 more)
                ],
                t.1.1,
              ),
            ),
        λ t.
            let above : ¬ (IsBelow x low) = λ less. elim (below_total n low) [
              | inl down ↦ at.1.0 down
              | inr (inl same) ↦ t.1.0 (subst (λ y. IsBelow x y) (sym same) less)
              | inr (inr up) ↦ t.1.0 (below_transitive x low n less up)
            ] in
            let m = (h.members x).1 (t.0, (above, t.1.1)) in
            elim (has_either fs (n ∷ gs) x m) [
              | inl l ↦ absurd (t.1.0 (ascending_across fs (n ∷ gs) x n h.ascending l (inl refl)))
              | inr r ↦ r
            ],
      );
    }

-- the range of those before it is proper, where there are some
cut_proper : (low n e : Entry) (high : Option Entry) (xs fs gs : List Entry)
    → AreThose (IsInside (between low high)) xs ((e ∷ fs) ++ n ∷ gs) → IsBelow low n
cut_proper low n e high xs fs gs h =
    let first = (h.members e).0 (inl refl) in
    let less : IsBelow e n = ascending_across (e ∷ fs) (n ∷ gs) e n h.ascending (inl refl) (inl refl) in
    elim (below_total low e) [
      | inl up ↦ below_transitive low e n up less
      | inr (inl same) ↦ subst (λ y. IsBelow y n) (sym same) less
      | inr (inr down) ↦ absurd (first.1.0 down)
    ]

pub cut_proper_some : (low n : Entry) (high : Option Entry) (xs fs gs : List Entry) → 1 ≤ length fs
    → AreThose (IsInside (between low high)) xs (fs ++ n ∷ gs) → IsBelow low n
cut_proper_some low n high xs [] gs some h = absurd (omega arith)
cut_proper_some low n high xs (e ∷ fs) gs some h = cut_proper low n e high xs fs gs h

pub cut_under : (low n : Entry) (high : Option Entry) (xs fs gs : List Entry)
    → AreThose (IsInside (between low high)) xs (fs ++ n ∷ gs) → IsUnder high n
cut_under low n high xs fs gs h = ((h.members n).0 (has_right fs (n ∷ gs) n (inl refl))).1.1

-- what is told of one part more
pub told_more : (xs ys : List Entry) (p : Part) (r : Range) → p.range ≡ r → IsSumOf ys p.sum
    → AreThose (IsInside r) xs ys → IsTold xs p
told_more xs ys p r range sum those = record {
  entries = ys;
  those = subst (λ (q : Range). AreThose (IsInside q) xs ys) (sym range) those;
  sum = sum;
}

pub chain_append : (from mid to : Option Entry) (ps qs : List Part) → Chain from mid ps → Chain mid to qs
    → Chain from to (ps ++ qs)
chain_append from mid to [] qs h k = subst (λ e. Chain e to qs) h k
chain_append from mid to (p ∷ ps) qs h k = (h.0, h.1, chain_append p.range.high mid to ps qs h.2 k)

pub chain_more : (from : Option Entry) (ps : List Part) (p : Part) (r : Range) → Chain from (Some r.low) ps
    → p.range ≡ r → IsProper r
    → Chain from r.high (ps ++ p ∷ [])
chain_more from ps p r h range proper =
    chain_append from (Some r.low) r.high ps (p ∷ []) h (
      ap (λ (q : Range). Some q.low) (sym range),
      subst IsProper (sym range) proper,
      ap (λ (q : Range). q.high)
          (sym range),
    )

-- the parts so far, and the last one
pub parts_end : (held ys rest : List Entry) (r : Range) (low : Entry) (ps all : List Part) (p : Part)
    → AreThose (IsInside r) held ys
    → Chain (Some r.low) (Some low) ps → AllByRecursion (IsTold held) ps
    → AllByRecursion (λ (q : Part). 1 ≤ q.sum.records) ps
    → sum_by (λ (q : Part). q.sum.records) ps + length rest ≡ length ys → (length rest < length ys → 1 ≤ length ps)
    → (length ys ≤ 1 → length ps ≡ 0)
    → (2 ≤ length ys → (1 ≤ length rest) × (length rest < length ys))
    → IsUnder r.high low → AreThose (IsInside (between low r.high)) held rest
    → p.range ≡ between low r.high → IsSumOf rest p.sum → all ≡ ps ++ p ∷ []
    → AreParts held r all
parts_end held ys rest r low ps all p those chain told some total several one short under e range sum items =
    let last : Range = between low r.high in
    let made : AreParts held r (ps ++ p ∷ []) = record {
      entries = ys;
      those = those;
      chain = chain_more (Some r.low) ps p last chain range under;
      told = all_append (IsTold held) ps (p ∷ []) told (told_more held rest p last range sum e, tt);
      several = λ two. let k = short two in record {
        several = let m = several k.1 in omega (arith, length-append ps (p ∷ []), m);
        some = all_append (λ (q : Part). 1 ≤ q.sum.records) ps (p ∷ []) some (omega (arith, sum.records, k.0), tt);
        total = let q = sum_by-cons (λ (q : Part). q.sum.records) p [] in
            omega (arith, sum_by-append (λ (q : Part). q.sum.records) ps (p ∷ []), q, total, sum.records);
      };
      one = λ few. let m = one few in omega (arith, length-append ps (p ∷ []), m);
    } in
    subst (AreParts held r) (sym items) made

-- several parts of a set of several entries
pub size_less : (n most : ℕ) → 2 ≤ n → 2 ≤ most → (n - 1) / most + 1 < n
size_less n most two m =
    let more : (n - 1) * 2 ≤ (n - 1) * most = mul-le-mul_left (n - 1) m in
    let q : (n - 1) / most < n - 1 = div_below (n - 1) most (n - 1) (omega arith) (omega (arith, more)) in
    omega arith
