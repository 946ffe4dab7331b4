use Rattle.std.proofs.Common.{ap, arith, length, subst}
use Rattle.std.specs.declared.cmp.Ordering.TheVariants.{Less, Equal, Greater}
use Rattle.reconcile.specs.Merging.{IsLastOrder}
use Rattle.reconcile.proofs.Merges.{popped_both, popped_first, popped_second}
use Rattle.reconcile.proofs.merging.pop_last.Goals as goal

pub returns-in-Less : goal.returns-in-Less
returns-in-Less c =
    let xs = c.args.a.now.items in
    let ys = c.args.b.now.items in
    let same = c.as_slice-2.ensures.value in
    popped_second xs ys c.pop.new.self.items c.pop.result _ c.requires.a c.requires.b
    (subst (λ l. IsLastOrder Less l ys) c.as_slice.ensures.value
    (subst (λ l. IsLastOrder Less c.as_slice.result.now l) same c.in-Less.ensures))
    c.pop.ensures.items c.pop.ensures.variant (omega (arith, c.as_slice-2.ensures.len, ap length same))

pub returns-in-Greater : goal.returns-in-Greater
returns-in-Greater c =
    let xs = c.args.a.now.items in
    let ys = c.args.b.now.items in
    let same = c.as_slice.ensures.value in
    popped_first xs ys c.pop-in-Greater.new.self.items c.pop-in-Greater.result _ c.requires.a c.requires.b
    (subst (λ l. IsLastOrder Greater l ys) same
    (subst (λ l. IsLastOrder Greater c.as_slice.result.now l) c.as_slice-2.ensures.value c.in-Greater.ensures))
    c.pop-in-Greater.ensures.items c.pop-in-Greater.ensures.variant
    (omega (arith, c.as_slice.ensures.len, ap length same))

pub returns-in-Equal : goal.returns-in-Equal
returns-in-Equal c =
    let xs = c.args.a.now.items in
    let ys = c.args.b.now.items in
    let first = c.as_slice.ensures.value in
    let second = c.as_slice-2.ensures.value in
    popped_both xs ys c.pop-in-Equal.new.self.items c.pop-same.new.self.items c.pop-in-Equal.result c.pop-same.result
    _ _ c.requires.a c.requires.b
    (subst (λ l. IsLastOrder Equal l ys) first
    (subst (λ l. IsLastOrder Equal c.as_slice.result.now l) second c.in-Equal.ensures))
    c.pop-in-Equal.ensures.items c.pop-in-Equal.ensures.variant
    (omega (arith, c.as_slice.ensures.len, ap length first))
    c.pop-same.ensures.items c.pop-same.ensures.variant
    (omega (arith, c.as_slice-2.ensures.len, ap length second))
