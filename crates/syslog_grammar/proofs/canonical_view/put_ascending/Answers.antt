use Rattle.std.proofs.Common.{subst}
use Rattle.syslog_grammar.specs.Verbatim.{HasOneMessageForm}
use Rattle.syslog_reading.specs.ViewParts.{view_parts}
use Rattle.syslog_grammar.proofs.DataForms.{kept_by_id, kept_form}
use Rattle.syslog_grammar.proofs.Rewritten.{record_verbatim}
use Rattle.syslog_grammar.proofs.canonical_view.put_ascending.Goals as goal

pub returns-clause-ok : goal.returns-clause-ok
returns-clause-ok c = λ b h.
    record_verbatim (view_parts c.args.view.now) c.args.out.now.items c.copy_verbatim.new.out.items
    (subst HasOneMessageForm c.message_view.ensures (c.has_one_message_form.ensures c.if-not-has_one_message_form.false))
    (λ es d. kept_form c.args.view.now.is_form c.args.view.now.ascends c.args.view.now.«structured_data».now
    c.args.view.now.forms c.if-not-is_form.false es d)
    (λ es d. kept_by_id c.args.view.now.is_form c.args.view.now.ascends c.args.view.now.«structured_data».now
    c.args.view.now.forms c.requires es d) c.in_ok-copy_verbatim.ensures b h
