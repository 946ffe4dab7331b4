-- The record that octets are.
use Rattle.std.proofs.Common.{ℕ, List, refl}
use Rattle.std.specs.Prelude.{ℤ, option_map}
use Rattle.syslog_value.specs.Parts.{Parts}
use Rattle.syslog_fields.specs.Time.{CivilTime, instant}
use Rattle.syslog_reading.specs.ViewParts.{ViewParts, IsViewOf}
use Rattle.syslog_reading.specs.WellFormed.{WellFormed}
use Rattle.syslog_reading.specs.Faults.{AreDistinct}
use Rattle.syslog_reading.proofs.ById.{sorted}

record_of : (p : Parts CivilTime) → AreDistinct p.elements → Parts ℤ
record_of p distinct = record {
  priority = p.priority;
  time = option_map instant p.time;
  hostname = p.hostname;
  app_name = p.app_name;
  proc_id = p.proc_id;
  msg_id = p.msg_id;
  elements = (sorted p.elements distinct).0;
  message = p.message;
}

-- octets that a view shows are a record
pub some_record : (b : List ℕ) (s : ViewParts) → IsViewOf b s → (r : Parts ℤ) × WellFormed r b
unfolding record_of
some_record b s (p, parse, range, distinct, has_parts) = (
  record_of p distinct,
  (
    p,
    parse,
    range,
    distinct,
    record {
      priority = refl;
      time = refl;
      hostname = refl;
      app_name = refl;
      proc_id = refl;
      msg_id = refl;
      elements = (sorted p.elements distinct).1;
      by_id = (sorted p.elements distinct).2;
      message = refl;
    },
  ),
)
