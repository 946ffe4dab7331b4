use Rattle.syslog_reading.specs.ViewParts.{view_parts}
use Rattle.syslog_grammar.proofs.ShownRecords.{adds_shown}
use Rattle.syslog_grammar.proofs.canonical_view.write_canonical_view.Goals as goal

pub returns-clause-shown : goal.returns-clause-shown
returns-clause-shown c =
    adds_shown (view_parts c.args.view.now) c.args.out.now.items c.put_view.new.out.items c.args.view.now.shown
    (λ b seen. c.in_default.ensures.ok b seen)
