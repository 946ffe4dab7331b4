use Rattle.std.proofs.Common.{◌++◌, reverse, subst, sym}
use Rattle.reconcile.specs.Ranges.{AreWithin}
use Rattle.reconcile.specs.Reconciling.{Going}
use Rattle.reconcile.proofs.Turned.{going_turned, within_turned}
use Rattle.reconcile.proofs.sorting.sort_parts.Goals as goal

pub returns-clause-within : goal.returns-clause-within
returns-clause-within g c r w =
    let ps = c.pop_parts.new.pending.items in
    let large = c.in_ok-sorted.sorted.large.items in
    let small = c.in_ok-sorted.sorted.small.items in
    subst (λ l. AreWithin r (ps ++ (l ++ c.reverse-2.new.self.items))) (sym c.reverse.ensures.items)
    (subst (λ l. AreWithin r (ps ++ (reverse large ++ l))) (sym c.reverse-2.ensures.items)
    (within_turned r ps large small (c.in_ok-sorted.ensures.within r w)))

pub returns-clause-going : goal.returns-clause-going
returns-clause-going g c r a b held sa sb first =
    let own = g.S.RangedSet.entries c.args.own.now in
    let ps = c.pop_parts.new.pending.items in
    let large = c.in_ok-sorted.sorted.large.items in
    let small = c.in_ok-sorted.sorted.small.items in
    subst (λ l. Going r a b own held (ps ++ (l ++ c.reverse-2.new.self.items))) (sym c.reverse.ensures.items)
    (subst (λ l. Going r a b own held (ps ++ (reverse large ++ l))) (sym c.reverse-2.ensures.items)
    (going_turned r a b own held ps large small (c.in_ok-sorted.ensures.going r a b held sa sb first)))
