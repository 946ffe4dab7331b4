use Rattle.syslog_reading.specs.ViewParts.{view_parts}
use Rattle.syslog_grammar.proofs.DataForms.{kept_form}
use Rattle.syslog_grammar.proofs.Rewritten.{record_sorted}
use Rattle.syslog_grammar.proofs.canonical_view.put_resorted.Goals as goal

pub returns-clause-ok : goal.returns-clause-ok
returns-clause-ok c = λ b h u.
    record_sorted c.args.view.now.is_form (view_parts c.args.view.now) c.args.out.now.items
    c.put_view_header.new.out.items c.put_sorted.new.out.items c.put_message_part.new.out.items
    c.in_ok-put_view_header.ensures
    (rw c.if-not-branch.false at c.in_ok-put_sorted.ensures)
    (λ f es d. kept_form c.args.view.now.is_form c.args.view.now.ascends c.args.view.now.«structured_data».now
    c.args.view.now.forms f es d) (rw c.message_view-message.ensures at c.in_ok-put_message_part.ensures) b h
