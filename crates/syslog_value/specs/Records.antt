-- What the fields of a record represent.
use Rattle.std.specs.Prelude.{ℤ}
use Rattle.syslog_value.specs.Parts.{Parts}
use Rattle.syslog_value.specs.declared.record.Record.TheInside.{Inside}

abbrev pub parts_of : Inside → Parts ℤ
parts_of r = record {
  priority = r.priority;
  time = r.instant;
  hostname = r.hostname;
  app_name = r.app_name;
  proc_id = r.proc_id;
  msg_id = r.msg_id;
  elements = r.structured;
  message = r.message;
}
