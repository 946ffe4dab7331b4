-- The records that are asked for, from an input.
use Rattle.std.specs.Prelude.{◌≡◌, ℕ, ◌≤◌, List, [], ◌++◌, Result, Err, codes, length}
use Rattle.std.specs.List.{AllByRecursion}
use Rattle.octet_devices.specs.Device.{InputState, count_on}
use Rattle.archive_text.specs.Entries.{Entry, IsEntry}
use Rattle.archive_reports.specs.FaultLines.{fault_words}
use Rattle.archive_proof.specs.Asking.{AreAskedIn, IsRecordsFault}
use Rattle.archive_proof.specs.declared.records.RecordsFault.{RecordsFault}
use Rattle.archive_proof.specs.declared.records.RecordsFault.TheVariants as records
use Rattle.archive_proof.specs.declared.records.TheConstants.{ASKED_MAX}
use Rattle.driver.specs.declared.status.TheConstants.{FAULT, NO_MEMORY, REFUSED}
use Rattle.driver.specs.Ended.{Telling}
use Rattle.proof_engine.specs.Bounded.{GoesOn, IsCutOff, IsText}
use Rattle.proof_engine.specs.declared.asking.AskingFault.{AskingFault}
use Rattle.proof_engine.specs.declared.asking.AskingFault.TheVariants.{Read, TooLong, Bad, TooMany, Memory}
use Rattle.proof_engine.specs.declared.asking.TheConstants.{RECORDS_MAX}

-- the whole text of an input is that of counted records, of which these are the entries
pub record HasAsked (q r : InputState) (es : List Entry) : Type 0 where
  pub text : List ℕ
  pub read : IsText RECORDS_MAX q r text
  pub asked : AreAskedIn text es []
  pub entries : AllByRecursion IsEntry es
  pub few : length es ≤ ASKED_MAX

-- it is none, for this fault
pub record IsNoRecords (q r : InputState) (fault : RecordsFault) : Type 0 where
  pub text : List ℕ
  pub read : IsText RECORDS_MAX q r text
  pub cause : IsRecordsFault text fault

-- why no records were read
abbrev pub IsNotAsked : AskingFault → InputState → InputState → Type 0
IsNotAsked Read q r = IsCutOff RECORDS_MAX q r
IsNotAsked TooLong q r = GoesOn RECORDS_MAX q r
IsNotAsked (Bad fault) q r = IsNoRecords q r (records.Bad fault)
IsNotAsked TooMany q r = IsNoRecords q r records.TooMany
IsNotAsked Memory q r = Unit {0}

-- the reader failed at this fault alone
abbrev pub AskingFailures : {X : Type 0} → Result X AskingFault → ℕ → ℕ → Type 0
AskingFailures (Err Read) old new = new ≡ count_on old
AskingFailures r old new = new ≡ old

-- what is told of it
abbrev pub asking_line : AskingFault → List ℕ
asking_line Read = codes "records read fault\n"
asking_line TooLong = codes "records too-long\n"
asking_line (Bad fault) = codes "records " ++ fault_words fault
asking_line TooMany = codes "records too-many\n"
asking_line Memory = codes "want of memory\n"

abbrev pub asking_status : AskingFault → ℕ
asking_status Read = FAULT
asking_status TooLong = FAULT
asking_status (Bad fault) = REFUSED
asking_status TooMany = FAULT
asking_status Memory = NO_MEMORY

abbrev pub is_no_record : AskingFault → Type 0
is_no_record Read = ⊥
is_no_record TooLong = ⊥
is_no_record (Bad fault) = Unit {0}
is_no_record TooMany = ⊥
is_no_record Memory = ⊥

abbrev pub asking_telling : Telling AskingFault
asking_telling = record { line = asking_line; status = asking_status; takes_memory = is_no_record }
