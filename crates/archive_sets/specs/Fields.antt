-- Conditions on the fields of a record.
use Rattle.std.specs.Prelude.{◌≡◌, ℕ, ℤ, ◌/◌, ◌%◌, ◌≤◌, ◌⊎◌, List, [], ◌∷◌, Option}
use Rattle.syslog_value.specs.Facilities.{facility_code}
use Rattle.syslog_value.specs.Parts.{ElementParts, Parts}
use Rattle.syslog_value.specs.Severities.{severity_code}
use Rattle.syslog_value.specs.declared.facility.Facility.{Facility}
use Rattle.syslog_value.specs.declared.severity.Severity.{Severity}
use Rattle.syslog_reading.specs.ViewParts.{ViewParts}
use Rattle.syslog_reading.specs.WellFormed.{WellFormed}
use Rattle.archive_sets.specs.declared.word_field.WordField.{WordField}
use Rattle.archive_sets.specs.declared.word_field.WordField.TheVariants.{Hostname, AppName, ProcId, MsgId}

-- the octets are a record of which this holds
pub record IsOfRecord (P : Parts ℤ → Type 0) (b : List ℕ) : Type 0 where
  pub of : Parts ℤ
  pub well_formed : WellFormed of b
  pub holds : P of

-- the record is as severe as this, or more severe: its code is not above (RFC 5424, section 6.2.1)
abbrev pub IsAsSevere : Severity → Parts ℤ → Type 0
IsAsSevere severity r = r.priority % 8 ≤ severity_code severity

-- the record is of this facility
abbrev pub IsInFacility : Facility → Parts ℤ → Type 0
IsInFacility facility r = r.priority / 8 ≡ facility_code facility

-- the word in a field of a record, and in one that a view shows
abbrev pub word_in : WordField → Parts ℤ → Option (List ℕ)
word_in Hostname r = r.hostname
word_in AppName r = r.app_name
word_in ProcId r = r.proc_id
word_in MsgId r = r.msg_id

abbrev pub shown_word : WordField → ViewParts → Option (List ℕ)
shown_word Hostname s = s.hostname
shown_word AppName s = s.app_name
shown_word ProcId s = s.proc_id
shown_word MsgId s = s.msg_id

-- an element of the list has this id
abbrev pub HasId : List ElementParts → List ℕ → Type 0
HasId [] id = ⊥
HasId (e ∷ es) id = (e.id ≡ id) ⊎ HasId es id

-- the record has an element with this id
abbrev pub HasElementId : List ℕ → Parts ℤ → Type 0
HasElementId id r = HasId r.elements id

-- the record has this word in a field, or none
abbrev pub HasWordAt : WordField → Option (List ℕ) → Parts ℤ → Type 0
HasWordAt field word r = word_in field r ≡ word
