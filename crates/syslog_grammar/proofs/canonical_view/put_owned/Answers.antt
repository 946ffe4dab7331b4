use Rattle.syslog_fields.specs.Canonical.{Canonical}
use Rattle.syslog_fields.proofs.Appends.{puts_begun}
use Rattle.syslog_grammar.proofs.canonical_view.put_owned.Goals as goal

pub returns-clause-begun : goal.returns-clause-begun
returns-clause-begun c = puts_begun (Canonical c.in_ok-record.record) c.args.out.now.items c.put_record.new.out.items
    c.put_record.result c.put_record.ensures
