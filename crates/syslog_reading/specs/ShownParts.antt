-- The parts of a record that a view shows, and the octets that spell them.
use Rattle.std.specs.Prelude.{◌≡◌, ℕ, ℤ, List, Option, option_map}
use Rattle.octet_language.specs.Language.{Language, Only, ◌⋅◌}
use Rattle.octet_language.specs.Reading.{Follows}
use Rattle.syslog_value.specs.Parts.{Parts, MessageParts}
use Rattle.syslog_fields.specs.Grammar.{MessagePart, Nilable, Priority, Spaced, StructuredDataText, SyslogMsg, Version}
use Rattle.syslog_fields.specs.Grammar.{WordFields}
use Rattle.syslog_fields.specs.Time.{CivilTime, TimeText, instant}
use Rattle.syslog_reading.specs.Faults.{IsInRange, AreDistinct}

-- the parts of a record with the text of its structured data
pub record ViewParts : Type 0 where
  pub priority : ℕ
  pub instant : Option ℤ
  pub hostname : Option (List ℕ)
  pub app_name : Option (List ℕ)
  pub proc_id : Option (List ℕ)
  pub msg_id : Option (List ℕ)
  pub elements : List ℕ
  pub message : MessageParts
  pub behind_time : List ℕ

-- what follows the timestamp and its space: the words, the structured data and the tail
abbrev pub BehindTime : ViewParts → Language
BehindTime s = WordFields s.hostname s.app_name s.proc_id s.msg_id ⋅ Only s.elements ⋅ MessagePart s.message

-- what comes before it: PRI, VERSION and the timestamp, each with its space
abbrev pub BeforeWords : Parts CivilTime → Language
BeforeWords p = Priority p.priority ⋅ Spaced Version ⋅ Spaced (Nilable TimeText p.time)

-- the parts that are shown are those that the octets spell, and what is shown as it lies is what the octets end with
pub record HasParts (b : List ℕ) (p : Parts CivilTime) (s : ViewParts) : Type 0 where
  pub priority : s.priority ≡ p.priority
  pub instant : s.instant ≡ option_map instant p.time
  pub hostname : s.hostname ≡ p.hostname
  pub app_name : s.app_name ≡ p.app_name
  pub proc_id : s.proc_id ≡ p.proc_id
  pub msg_id : s.msg_id ≡ p.msg_id
  pub elements : StructuredDataText p.elements s.elements
  pub message : s.message ≡ p.message
  pub behind_time : BehindTime s s.behind_time
  pub lies : Follows (BeforeWords p) b s.behind_time

-- the octets spell a record, with an instant in range and distinct ids, and this is shown of it
abbrev pub IsViewOf : List ℕ → ViewParts → Type 0
IsViewOf b s = (p : Parts CivilTime) × SyslogMsg p b × IsInRange p × AreDistinct p.elements × HasParts b p s

-- some octets spell it
abbrev pub IsSpelled : ViewParts → Type 0
IsSpelled s = (b : List ℕ) × IsViewOf b s
