use Rattle.store_statistics.proofs.Naming.{settled_order, settled_same}
use Rattle.store_statistics.proofs.names.settle.Goals as goal

pub returns-clause-order : goal.returns-clause-order
returns-clause-order c = settled_order _ _ c.sort.ensures.sorted c.drop_repeats.ensures

pub returns-clause-same : goal.returns-clause-same
returns-clause-same c = settled_same _ _ _ c.sort.ensures.moved c.drop_repeats.ensures
