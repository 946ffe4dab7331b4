use Rattle.std.proofs.Common.{◌≡◌, ◌∙◌, ◌+◌, ◌≤◌, ◌++◌, ◌∷◌, [], ap, arith, refl, subst, sym}
use Rattle.std.specs.List.{AllByRecursion}
use Rattle.std.proofs.lemmas.List.{append-nil}
use Rattle.archive_text.proofs.Members.{all_append}
use Rattle.reconcile.specs.Ranges.{Covers, IsSumIn}
use Rattle.reconcile.specs.Reconciling.{Going}
use Rattle.reconcile.specs.Requests.{allowance, allowed}
use Rattle.reconcile.specs.declared.part.Part.{Part}
use Rattle.reconcile.proofs.Costs.{costs_last}
use Rattle.reconcile.proofs.Popping.{covers_dropped, covers_large, covers_small, going_large, going_popped}
use Rattle.reconcile.proofs.Popping.{going_small, one_sum}
use Rattle.reconcile.proofs.Turns.{going_equal}
use Rattle.reconcile.proofs.sorting.pop_parts.Goals as goal

pub sorting-preserved-then-is : goal.sorting-preserved-then-is
sorting-preserved-then-is g c =
    let own = g.S.RangedSet.entries c.args.own.now in
    let ps = c.pop.new.self.items in
    let p = c.in-Some.part in
    let rest = c.sorting.large.items ++ c.sorting.small.items in
    let inv = c.sorting.invariant in
    let items : c.sorting.pending.items ≡ ps ++ p ∷ [] = c.in-Some.ensures.items in
    let cost : allowance c.sorting.pending.items ≡ allowance ps + allowed p = ap allowance items ∙ costs_last ps p in
    let told = c.if-is.ensures.0 refl in
    let sum : IsSumIn own p.range c.in_ok-mine.mine = subst (λ l. IsSumIn l p.range c.in_ok-mine.mine) inv.kept
    c.in_ok-mine.ensures.sum in
    let mine : IsSumIn own p.range p.sum = subst (IsSumIn own p.range)
    (one_sum c.in_ok-mine.mine p.sum told.0 told.1 told.2) sum in
    record {
      kept = c.in_ok-mine.ensures.kept ∙ inv.kept;
      large = inv.large;
      costs = omega (arith, cost, inv.costs);
      within = λ r w x k. inv.within r w x (subst (λ l. Covers (l ++ rest) x) (sym items)
          (covers_dropped ps rest p x k));
      going = λ r a b held sa sb first.
          let now = subst (λ l. Going r a b own held (l ++ rest)) items (inv.going r a b held sa sb first) in
          going_equal r a b own held p (ps ++ rest) sa sb (going_popped r a b own held ps rest p now) mine;
    }

pub sorting-preserved-in-Continue-branch-2 : goal.sorting-preserved-in-Continue-branch-2
sorting-preserved-in-Continue-branch-2 g c =
    let own = g.S.RangedSet.entries c.args.own.now in
    let ps = c.pop.new.self.items in
    let p = c.in-Some.part in
    let large = c.sorting.large.items in
    let small = c.sorting.small.items in
    let inv = c.sorting.invariant in
    let items : c.sorting.pending.items ≡ ps ++ p ∷ [] = c.in-Some.ensures.items in
    let pushed : c.push.new.self.items ≡ small ++ p ∷ [] = c.in_ok-push.ensures.items in
    let cost : allowance c.sorting.pending.items ≡ allowance ps + allowed p = ap allowance items ∙ costs_last ps p in
    let more : allowance c.push.new.self.items ≡ allowance small + allowed p = ap allowance pushed
    ∙ costs_last small p in
    record {
      kept = c.in_ok-mine.ensures.kept ∙ inv.kept;
      large = inv.large;
      costs = omega (arith, cost, more, inv.costs);
      within = λ r w x k. inv.within r w x (subst (λ l. Covers (l ++ (large ++ small)) x) (sym items)
          (covers_small ps large small p x (subst (λ l. Covers (ps ++ (large ++ l)) x) pushed k)));
      going = λ r a b held sa sb first.
          let now = subst (λ l. Going r a b own held (l ++ (large ++ small))) items
          (inv.going r a b held sa sb first) in
          subst (λ l. Going r a b own held (ps ++ (large ++ l))) (sym pushed)
          (going_small r a b own held ps large small p (going_popped r a b own held ps (large ++ small) p now));
    }

pub sorting-preserved : goal.sorting-preserved
sorting-preserved g c =
    let own = g.S.RangedSet.entries c.args.own.now in
    let ps = c.pop.new.self.items in
    let p = c.in-Some.part in
    let large = c.sorting.large.items in
    let small = c.sorting.small.items in
    let inv = c.sorting.invariant in
    let items : c.sorting.pending.items ≡ ps ++ p ∷ [] = c.in-Some.ensures.items in
    let pushed : c.push-else-part-plan.new.self.items ≡ large ++ p ∷ [] = c.in_ok-push-2.ensures.items in
    let cost : allowance c.sorting.pending.items ≡ allowance ps + allowed p = ap allowance items ∙ costs_last ps p in
    let more : allowance c.push-else-part-plan.new.self.items ≡ allowance large + allowed p = ap allowance pushed
    ∙ costs_last large p in
    record {
      kept = c.in_ok-mine.ensures.kept ∙ inv.kept;
      large = subst (AllByRecursion (λ (q : Part). 2 ≤ q.sum.records)) (sym pushed)
          (all_append (λ (q : Part). 2 ≤ q.sum.records) large (p ∷ []) inv.large (omega arith, tt));
      costs = omega (arith, cost, more, inv.costs);
      within = λ r w x k. inv.within r w x (subst (λ l. Covers (l ++ (large ++ small)) x) (sym items)
          (covers_large ps large small p x (subst (λ l. Covers (ps ++ (l ++ small)) x) pushed k)));
      going = λ r a b held sa sb first.
          let now = subst (λ l. Going r a b own held (l ++ (large ++ small))) items
          (inv.going r a b held sa sb first) in
          subst (λ l. Going r a b own held (ps ++ (l ++ small))) (sym pushed)
          (going_large r a b own held ps large small p (going_popped r a b own held ps (large ++ small) p now));
    }

pub returns-in_default-clause-going : goal.returns-in_default-clause-going
returns-in_default-clause-going g c r a b held sa sb first =
    let own = g.S.RangedSet.entries c.args.own.now in
    let rest = c.sorting.large.items ++ c.sorting.small.items in
    let same : c.sorting.pending.items ≡ c.pop.new.self.items = c.in_default.ensures.items
    ∙ append-nil c.pop.new.self.items in
    subst (λ l. Going r a b own held (l ++ rest)) same (c.sorting.invariant.going r a b held sa sb first)
