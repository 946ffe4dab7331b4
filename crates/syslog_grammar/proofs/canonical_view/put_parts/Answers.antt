use Rattle.syslog_reading.specs.ViewParts.{view_parts}
use Rattle.syslog_grammar.proofs.DataForms.{kept_by_id}
use Rattle.syslog_grammar.proofs.Rewritten.{record_written}
use Rattle.syslog_grammar.proofs.canonical_view.put_parts.Goals as goal

pub returns-clause-ok : goal.returns-clause-ok
returns-clause-ok c = λ b h.
    record_written (view_parts c.args.view.now) c.args.out.now.items c.put_view_header.new.out.items
    c.put_structured_data.new.out.items c.put_message_part.new.out.items
    c.in_ok-put_view_header.ensures c.in_ok-put_structured_data.ensures
    (λ es d. kept_by_id c.args.view.now.is_form c.args.view.now.ascends c.args.view.now.«structured_data».now
    c.args.view.now.forms c.requires es d) (rw c.message_view-message.ensures at c.in_ok-put_message_part.ensures) b h
