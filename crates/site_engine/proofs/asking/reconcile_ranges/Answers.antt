use Rattle.std.proofs.Common.{arith, subst}
use Rattle.reconcile.specs.Ranges.{IsInside}
use Rattle.reconcile.specs.declared.range.Range.{Range}
use Rattle.store_site.specs.Ranges.{IsInSome}
use Rattle.site_engine.proofs.Growth.{grows_none, grows_then, in_some}
use Rattle.site_engine.proofs.asking.reconcile_ranges.Goals as goal

pub reconciling-init : goal.reconciling-init
reconciling-init g c = grows_none (IsInSome c.args.ranges.now) _ (g.met.S.RangedSet.archive c.args.own.now)

pub returns-in_err-reconcile : goal.returns-in_err-reconcile
returns-in_err-reconcile g c =
    let ranges = c.args.ranges.now in
    let range = c.range-item.result in
    grows_then (IsInSome ranges) (IsInside range) _ _ _ _ _ _ c.reconciling.invariant c.in_err-reconcile.ensures.did
    (λ x m. in_some ranges c.reconciling.range-index range x (omega arith)
    (subst (λ (r : Range). IsInside r x) c.range-item.is m))

pub reconciling-preserved : goal.reconciling-preserved
reconciling-preserved g c =
    let ranges = c.args.ranges.now in
    let range = c.range-item.result in
    grows_then (IsInSome ranges) (IsInside range) _ _ _ _ _ _ c.reconciling.invariant c.in_ok-reconcile.ensures.did
    (λ x m. in_some ranges c.reconciling.range-index range x (omega arith)
    (subst (λ (r : Range). IsInside r x) c.range-item.is m))
