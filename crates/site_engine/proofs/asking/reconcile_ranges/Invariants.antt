use Rattle.store_site.specs.Ranges.{IsInSome}
use Rattle.site_engine.specs.Growing.{GrowsBy}
use Rattle.site_engine.proofs.asking.reconcile_ranges.Given as goal

abbrev pub invariant-reconciling : goal.invariant-reconciling
invariant-reconciling g l = GrowsBy (IsInSome l.ranges) (g.S.RangedSet.entries l.fn.own) (g.S.RangedSet.entries l.own)
