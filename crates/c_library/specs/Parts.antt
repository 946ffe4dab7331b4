-- The parts of a record as C sees them.
use Rattle.std.specs.Prelude.{◌≡◌, ℕ, ℤ, pos, ◌+◌, ◌-◌, ◌*◌, ◌<◌, List, length, Option, Some, None, option_map}
use Rattle.syslog_value.specs.Parts.{MessageParts, AnyOctets, Utf8Text, Parts}
use Rattle.syslog_fields.specs.Canonical.{word_form}
use Rattle.syslog_fields.specs.Grammar.{StructuredDataText, SyslogMsg}
use Rattle.syslog_fields.specs.Time.{CivilTime, instant}
use Rattle.syslog_reading.specs.Faults.{AreDistinct, IsInRange}
use Rattle.syslog_reading.specs.ViewParts.{ViewParts, octets_of}
use Rattle.c_library.specs.Faults.{IsWithin}
use Rattle.c_library.specs.Spans.{LiesAt, Spans, SpansWord}
use Rattle.c_library.specs.declared.layout.Layout.{Layout}
use Rattle.c_library.specs.declared.parts.SyslogboxParts.{SyslogboxParts}

-- the octets spell a record of these parts that is read, with its elements in their order
pub record Spells (b : List ℕ) (p : Parts CivilTime) : Type 0 where
  pub within : IsWithin b
  pub text : SyslogMsg p b
  pub in_range : IsInRange p
  pub distinct : AreDistinct p.elements

-- where the words and the structured data lie, one behind the other up to the end of the octets
pub record IsLayout (b : List ℕ) (s : ViewParts) (l : Layout) : Type 0 where
  pub hostname : LiesAt b l.hostname (word_form s.hostname)
  pub app_name : LiesAt b l.app_name (word_form s.app_name)
  pub proc_id : LiesAt b l.proc_id (word_form s.proc_id)
  pub msg_id : LiesAt b l.msg_id (word_form s.msg_id)
  pub structured_data : LiesAt b l.structured_data s.elements
  pub hostname_is : l.hostname ≡ length b - length s.behind_time
  pub app_name_is : l.app_name ≡ l.hostname + length (word_form s.hostname) + 1
  pub proc_id_is : l.proc_id ≡ l.app_name + length (word_form s.app_name) + 1
  pub msg_id_is : l.msg_id ≡ l.proc_id + length (word_form s.proc_id) + 1
  pub structured_data_is : l.structured_data ≡ l.msg_id + length (word_form s.msg_id) + 1

-- an instant in microseconds, or none
abbrev pub ShowsTime : Option ℤ → ℕ → ℤ → Type 0
ShowsTime None has time = (has ≡ 0) × (time ≡ pos 0)
ShowsTime (Some i) has time = (has ≡ 1) × (time ≡ i)

-- whether the message starts with the BOM
abbrev pub ShowsBom : MessageParts → ℕ → Type 0
ShowsBom (AnyOctets octets) has = has ≡ 0
ShowsBom (Utf8Text text) has = has ≡ 1

-- all parts of a record are shown, each by its value or by where it lies
pub record Shows (b : List ℕ) (p : Parts CivilTime) (c : SyslogboxParts) : Type 0 where
  pub priority : c.facility * 8 + c.severity ≡ p.priority
  pub severity : c.severity < 8
  pub time : ShowsTime (option_map instant p.time) c.has_time c.time
  pub hostname : SpansWord b c.hostname p.hostname
  pub app_name : SpansWord b c.app_name p.app_name
  pub proc_id : SpansWord b c.proc_id p.proc_id
  pub msg_id : SpansWord b c.msg_id p.msg_id
  pub structured_data : (text : List ℕ) × Spans b c.structured_data text × StructuredDataText p.elements text
  pub elements : c.elements ≡ length p.elements
  pub bom : ShowsBom p.message c.has_bom
  pub message : Spans b c.message (octets_of p.message)
