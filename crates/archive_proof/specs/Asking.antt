-- Records that are asked for.
use Rattle.std.specs.Prelude.{◌≡◌, ℕ, ℤ, ◌-◌, ◌<◌, ◌≤◌, List, [], ◌∷◌, length, map}
use Rattle.octet_language.specs.Language.{AnyOf}
use Rattle.syslog_reading.specs.Faults.{FaultOf}
use Rattle.syslog_reading.specs.WellFormed.{WellFormed}
use Rattle.syslog_value.specs.Parts.{Parts}
use Rattle.archive_text.specs.Entries.{Entry, IsEntryOf}
use Rattle.archive_text.specs.Faults.{IsBadFrame, IsCountedFirst, IsFaultBefore, IsTooLong}
use Rattle.archive_text.specs.Positions.{later}
use Rattle.archive_text.specs.declared.fault.ArchiveFault.{ArchiveFault}
use Rattle.archive_text.specs.declared.fault.ArchiveFault.TheVariants.{BadFrame, EntryTooLong, BadEntry}
use Rattle.archive_text.specs.declared.limits.TheConstants.{ENTRY_MAX}
use Rattle.archive_proof.specs.declared.asked.AskFault.{AskFault}
use Rattle.archive_proof.specs.declared.asked.AskFault.TheVariants.{Bad, Memory}
use Rattle.archive_proof.specs.declared.asked.AskedRecord.{AskedRecord}
use Rattle.archive_proof.specs.declared.records.RecordsFault.{RecordsFault}
use Rattle.archive_proof.specs.declared.records.RecordsFault.TheVariants.{Bad as records_Bad, TooMany}
use Rattle.archive_proof.specs.declared.records.RecordsFault.TheVariants.{Memory as records_Memory}
use Rattle.archive_proof.specs.declared.records.TheConstants.{ASKED_MAX}

-- what the record is in an archive
abbrev pub asked_entry : AskedRecord → Entry
asked_entry r = record { instant = r.instant; octets = r.octets.items }

abbrev pub asked_entries : List AskedRecord → List Entry
asked_entries rs = map asked_entry rs

-- the octets are a record in some spelling, and the entry is that of this record
pub record IsAsked (b : List ℕ) (e : Entry) : Type 0 where
  pub parts : Parts ℤ
  pub spelled : WellFormed parts b
  pub entry : IsEntryOf parts e

-- the octets are no record, for this fault
abbrev pub IsAskFault : List ℕ → AskFault → Type 0
IsAskFault b (Bad fault) = FaultOf b fault × ¬ (AnyOf WellFormed b)
IsAskFault b Memory = Unit {0}

-- ---- texts of such records

-- a text begins with the length and the octets of a record, of which this is the entry, and so it goes on
pub record IsFirstAsked (text : List ℕ) (e : Entry) (rest : List ℕ) : Type 0 where
  pub octets : List ℕ
  pub counted : IsCountedFirst ENTRY_MAX text octets rest
  pub asked : IsAsked octets e

-- a text begins with such records, of which these are the entries, and so it goes on
abbrev pub AreAskedIn : List ℕ → List Entry → List ℕ → Type 0
AreAskedIn text [] rest = text ≡ rest
AreAskedIn text (e ∷ es) rest = (behind : List ℕ) × (IsFirstAsked text e behind × AreAskedIn behind es rest)

-- why a text begins with no such record
abbrev pub IsTextFault : List ℕ → ArchiveFault → Type 0
IsTextFault text (BadFrame at) = IsBadFrame ENTRY_MAX text at
IsTextFault text (EntryTooLong at) = (at ≡ 0) × IsTooLong ENTRY_MAX text
IsTextFault text (BadEntry at fault) = IsFaultBefore ENTRY_MAX text (BadEntry at fault)
IsTextFault text fault = ⊥

-- the same, as a fault of records
abbrev pub IsNoAsked : List ℕ → RecordsFault → Type 0
IsNoAsked text (records_Bad fault) = IsTextFault text fault
IsNoAsked text TooMany = ⊥
IsNoAsked text records_Memory = Unit {0}

-- why a text goes on behind so many octets and records with no further one
abbrev pub IsRecordsCause : ℕ → ℕ → List ℕ → RecordsFault → Type 0
IsRecordsCause at n rest (records_Bad fault) = (f : ArchiveFault) × ((fault ≡ later at f) × IsTextFault rest f)
IsRecordsCause at n rest TooMany = (ASKED_MAX ≤ n) × (0 < length rest)
IsRecordsCause at n rest records_Memory = Unit {0}

-- the text begins with these records, and there is this fault behind them
pub record IsRecordsFault (text : List ℕ) (fault : RecordsFault) : Type 0 where
  pub es : List Entry
  pub rest : List ℕ
  pub asked : AreAskedIn text es rest
  pub cause : IsRecordsCause (length text - length rest) (length es) rest fault
