use Rattle.archive_text.proofs.Orders.{below_irreflexive, below_transitive}
use Rattle.archive_laws.proofs.Collected.{one_is_below}
use Rattle.archive_laws.proofs.order.entry_order_is_total.Goals as goal

pub returns-clause-irreflexive : goal.returns-clause-irreflexive
returns-clause-irreflexive c = below_irreflexive

pub returns-clause-transitive : goal.returns-clause-transitive
returns-clause-transitive c = below_transitive

pub returns-clause-total : goal.returns-clause-total
returns-clause-total c = one_is_below
