-- What is shown of a record that was read, and what is written of it.
use Rattle.std.specs.Prelude.{◌≡◌, ℕ, ℤ, pos, List, [], ◌∷◌, ◌++◌, Option, Some, None}
use Rattle.syslog_fields.specs.Time.{padded}
use Rattle.syslog_fields.specs.declared.timestamp.Timestamp.{Timestamp}
use Rattle.syslog_reading.specs.Faults.{FaultOf}
use Rattle.syslog_reading.specs.Fields.{header_parts}
use Rattle.syslog_reading.specs.ShownParts.{ViewParts}
use Rattle.syslog_reading.specs.Views.{message_parts}
use Rattle.syslog_reading.specs.WellFormed.{AddsCanonical}
use Rattle.syslog_reading.specs.declared.fault.Fault.{Fault}
use Rattle.syslog_reading.specs.declared.syntax.Parsed.{Parsed}

-- the time is in UTC, with these microseconds
abbrev pub IsInUtc : Option Timestamp → ℕ → Type 0
IsInUtc None micros = ⊥
IsInUtc (Some t) micros = (t.offset_minutes ≡ pos 0) × (micros ≡ t.civil.micros)

-- the end of a canonical timestamp: a point, microseconds in six digits, and "Z"
abbrev pub utc_fraction : ℕ → List ℕ
utc_fraction micros = 46 ∷ padded 6 micros ++ 90 ∷ []

-- what is shown of parts that were read, with the instant that their time names
abbrev pub shown_parts : Parsed → Option ℤ → ViewParts
shown_parts s i =
    let h = header_parts s.fields in
    record {
      priority = h.priority;
      instant = i;
      hostname = h.hostname;
      app_name = h.app_name;
      proc_id = h.proc_id;
      msg_id = h.msg_id;
      elements = s.«structured_data».now;
      message = message_parts s.message;
      behind_time = s.fields.behind_time.now;
    }

-- the canonical octets of the record that the octets are follow the old octets; or this is their fault, and nothing does
abbrev pub PutsCanonical : List ℕ → List ℕ → List ℕ → Option Fault → Type 0
PutsCanonical b old new None = AddsCanonical b old new
PutsCanonical b old new (Some fault) = FaultOf b fault × (new ≡ old)
