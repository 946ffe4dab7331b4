use Rattle.syslog_fields.proofs.Appends.{puts_as}
use Rattle.syslog_reading.specs.ViewParts.{view_parts}
use Rattle.std.proofs.Common.{refl}
use Rattle.record_json.specs.Texts.{LentLine, ShownLine}
use Rattle.record_json.specs.declared.line.LentParts.{LentParts}
use Rattle.record_json.proofs.WholeLines.{shown_of_lent}
use Rattle.record_json.proofs.view_line.put_shown.Goals as goal

pub returns : goal.returns
returns c =
    let s = view_parts c.args.view.now in
    let p : LentParts = record {
      header = record {
        priority = c.priority.result;
        instant = c.instant.result;
        hostname = c.hostname.result;
        app_name = c.app_name.result;
        proc_id = c.proc_id.result;
        msg_id = c.msg_id.result;
      };
      «structured_data» = c.args.view.now.«structured_data»;
      message = c.message_view.result;
    } in
    puts_as (LentLine p) (ShownLine s) c.args.out.now.items c.append_line.new.out.items c.append_line.result
    (shown_of_lent p s c.priority.ensures c.instant.ensures c.hostname.ensures c.app_name.ensures c.proc_id.ensures
    c.msg_id.ensures refl c.message_view.ensures) c.append_line.ensures
