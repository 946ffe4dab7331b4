use Rattle.syslog_value.proofs.Octets.{octets_ranked}
use Rattle.archive_text.specs.EntryViews.{entry_of}
use Rattle.archive_text.proofs.Orders.{by_octets, by_instant}
use Rattle.archive_text.proofs.entry.compare.Goals as goal

pub returns-in-Equal : goal.returns-in-Equal
returns-in-Equal c =
    by_octets (entry_of c.args.a.now) (entry_of c.args.b.now) c.cmp.result c.in-Equal.ensures
    (octets_ranked c.args.a.now.octets.now c.args.b.now.octets.now c.cmp.result c.cmp.ensures)

pub returns-in_default : goal.returns-in_default
returns-in_default c = by_instant (entry_of c.args.a.now) (entry_of c.args.b.now) c.compare_instants.result
    c.compare_instants.ensures c.in_default.not-Equal
