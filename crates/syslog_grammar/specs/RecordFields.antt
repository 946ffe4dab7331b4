-- The record of lent parts.
use Rattle.std.specs.Prelude.{ℤ}
use Rattle.std.specs.Option.{option_copied}
use Rattle.syslog_value.specs.Parts.{Parts}
use Rattle.syslog_grammar.specs.declared.record_fields.RecordFields.{RecordFields}

abbrev pub field_parts : RecordFields → Parts ℤ
field_parts r = record {
  priority = r.priority;
  time = r.instant;
  hostname = option_copied r.hostname;
  app_name = option_copied r.app_name;
  proc_id = option_copied r.proc_id;
  msg_id = option_copied r.msg_id;
  elements = r.structured.now;
  message = r.message.now;
}
