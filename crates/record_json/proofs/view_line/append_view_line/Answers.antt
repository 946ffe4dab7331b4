use Rattle.syslog_reading.specs.ViewParts.{view_parts}
use Rattle.syslog_grammar.proofs.DataForms.{kept_by_id}
use Rattle.syslog_fields.proofs.Appends.{puts_begun}
use Rattle.record_json.specs.Texts.{ShownLine}
use Rattle.record_json.proofs.WholeLines.{by_view, puts_line}
use Rattle.record_json.proofs.view_line.append_view_line.Goals as goal

pub returns-then-ascends-clause-begun : goal.returns-then-ascends-clause-begun
returns-then-ascends-clause-begun c =
    puts_begun (ShownLine (view_parts c.args.view.now)) c.args.out.now.items c.put_shown.new.out.items c.put_shown.result
    c.put_shown.ensures

pub returns-then-ascends-clause-ok : goal.returns-then-ascends-clause-ok
returns-then-ascends-clause-ok c = λ b seen.
    let s = view_parts c.args.view.now in
    puts_line (ShownLine s) b c.args.out.now.items c.put_shown.new.out.items c.put_shown.result
    (λ l line. by_view s b l
    (λ es d. kept_by_id c.args.view.now.is_form c.args.view.now.ascends c.args.view.now.«structured_data».now
    c.args.view.now.forms c.if-ascends.true es d) seen line) c.put_shown.ensures
