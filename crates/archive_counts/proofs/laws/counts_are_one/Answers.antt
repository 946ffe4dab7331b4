use Rattle.archive_counts.specs.Orders.{order_of}
use Rattle.archive_counts.proofs.CountLaws.{one_count}
use Rattle.archive_counts.proofs.laws.counts_are_one.Goals as goal

pub returns : goal.returns
returns c = one_count c.args.options.now.keys.items (order_of c.args.options.now)
