-- Well-formed octets, and the one record that they are.
use Rattle.std.specs.Prelude.{◌≡◌, ℕ, ℤ, List, option_map}
use Rattle.std.specs.List.Sorted.{IsPermutation}
use Rattle.octet_language.specs.Language.{Language}
use Rattle.syslog_value.specs.Parts.{Parts, IsById}
use Rattle.std.specs.Prelude.{◌≤◌, IfSome}
use Rattle.std.specs.List.{AllByRecursion}
use Rattle.syslog_value.specs.Parts.{IsElement, IsInstant, IsMessage, IsWord}
use Rattle.syslog_fields.specs.Appending.{Adds}
use Rattle.syslog_fields.specs.Canonical.{Canonical}
use Rattle.syslog_fields.specs.Grammar.{SyslogMsg}
use Rattle.syslog_fields.specs.Time.{CivilTime, instant}
use Rattle.syslog_reading.specs.Faults.{IsInRange, AreDistinct}

-- the record of parts: the instant in the offset of the time, and the elements by id
pub record IsMeaning (p : Parts CivilTime) (r : Parts ℤ) : Type 0 where
  pub priority : r.priority ≡ p.priority
  pub time : r.time ≡ option_map instant p.time
  pub hostname : r.hostname ≡ p.hostname
  pub app_name : r.app_name ≡ p.app_name
  pub proc_id : r.proc_id ≡ p.proc_id
  pub msg_id : r.msg_id ≡ p.msg_id
  pub elements : IsPermutation p.elements r.elements
  pub by_id : IsById r.elements
  pub message : r.message ≡ p.message

-- the octets spell parts with an instant in range and distinct ids, and the record is theirs
abbrev pub WellFormed : Parts ℤ → Language
WellFormed r b = (p : Parts CivilTime) × SyslogMsg p b × IsInRange p × AreDistinct p.elements × IsMeaning p r

-- the canonical text of the record that the octets are follows the old octets
abbrev pub AddsCanonical : List ℕ → List ℕ → List ℕ → Type 0
AddsCanonical b old new = (r : Parts ℤ) × WellFormed r b × Adds (Canonical r) old new

-- each part is one that a record may have, whatever the order of the elements
pub record HasRecordParts (r : Parts ℤ) : Type 0 where
  pub priority : r.priority ≤ 191
  pub time : IfSome r.time IsInstant
  pub hostname : IfSome r.hostname (IsWord 255)
  pub app_name : IfSome r.app_name (IsWord 48)
  pub proc_id : IfSome r.proc_id (IsWord 128)
  pub msg_id : IfSome r.msg_id (IsWord 32)
  pub elements : AllByRecursion IsElement r.elements
  pub message : IsMessage r.message
