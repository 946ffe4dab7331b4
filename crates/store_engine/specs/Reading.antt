-- What `read` does.
use Rattle.std.specs.Prelude.{◌≡◌, ℕ, List, ◌++◌, Option, None, Some, Result, Ok, Err, IfErr, codes}
use Rattle.disk.specs.States.{Files}
use Rattle.disk.specs.declared.fault.DiskFault.{DiskFault}
use Rattle.disk.specs.declared.fault.DiskFault.TheVariants.{Missing, Exists, Full, Failed, Memory as disk_Memory}
use Rattle.octet_devices.specs.Device.{OutputState}
use Rattle.archive_sets.specs.declared.range.InRange.{InRange}
use Rattle.archive_streams.specs.declared.fault.InputFault.{InputFault}
use Rattle.archive_streams.specs.declared.fault.InputFault.TheVariants.{Device, Endless}
use Rattle.driver.specs.declared.status.TheConstants.{DONE, FAULT, NO_MEMORY, REFUSED}
use Rattle.driver.specs.Ended.{EndsAs, Telling}
use Rattle.store_reading.specs.Causes.{IsCause, WriterFailures, reading_causes}
use Rattle.store_reading.specs.Sets.{WritesPart, WritesSet}
use Rattle.store_reading.specs.Whole.{IsWholeIn}
use Rattle.store_reading.specs.declared.fault.ReadFault.{ReadFault}
use Rattle.store_reading.specs.declared.fault.ReadFault.TheVariants.{Folder, Open, Damaged, Read, Gone, TooManyDays}
use Rattle.store_reading.specs.declared.fault.ReadFault.TheVariants.{Write, Memory}
use Rattle.store_engine.specs.Lines.{file_line}

-- the line on a call that failed for want of memory or not
abbrev pub disk_line : DiskFault → List ℕ → List ℕ
disk_line Missing line = line
disk_line Exists line = line
disk_line Full line = line
disk_line Failed line = line
disk_line disk_Memory line = codes "want of memory\n"

abbrev pub disk_status : DiskFault → ℕ
disk_status Missing = FAULT
disk_status Exists = FAULT
disk_status Full = FAULT
disk_status Failed = FAULT
disk_status disk_Memory = NO_MEMORY

abbrev pub input_words : InputFault → List ℕ
input_words Device = codes " read fault\n"
input_words Endless = codes " endless input\n"

abbrev pub read_line : ReadFault → List ℕ
read_line (Folder fault) = disk_line fault (codes "folder read fault\n")
read_line (Open name fault) = disk_line fault (name ++ codes " read fault\n")
read_line (Damaged name fault) = file_line name fault
read_line (Read name fault) = name ++ input_words fault
read_line Gone = codes "the folder keeps changing\n"
read_line TooManyDays = codes "too many days\n"
read_line Write = codes "write fault\n"
read_line Memory = codes "want of memory\n"

abbrev pub read_status : ReadFault → ℕ
read_status (Folder fault) = disk_status fault
read_status (Open name fault) = disk_status fault
read_status (Damaged name fault) = REFUSED
read_status (Read name fault) = FAULT
read_status Gone = FAULT
read_status TooManyDays = FAULT
read_status Write = FAULT
read_status Memory = NO_MEMORY

-- its line has the name of a file
abbrev pub is_of_file : ReadFault → Type 0
is_of_file (Folder fault) = ⊥
is_of_file (Open name fault) = Unit {0}
is_of_file (Damaged name fault) = Unit {0}
is_of_file (Read name fault) = Unit {0}
is_of_file Gone = ⊥
is_of_file TooManyDays = ⊥
is_of_file Write = ⊥
is_of_file Memory = ⊥

abbrev pub read_telling : Telling ReadFault
read_telling = record { line = read_line; status = read_status; takes_memory = is_of_file }

-- the archive of what the folder holds, of the range, was written, and no damaged file was passed over
pub record IsRead (tells : Type 0) (files : Files) (range : InRange) (old new : OutputState) (status : ℕ) : Type 0 where
  pub done : status ≡ DONE
  pub written : tells → WritesSet files range old.taken new.taken
  pub whole : tells → IsWholeIn files range

-- the result of a reading that ended so
abbrev pub result_of : Option ReadFault → Result (Unit {0}) ReadFault
result_of None = Ok tt
result_of (Some fault) = Err fault

-- what a reading does, whatever the folder and the devices do; `tells` says that the folder tells its files, `failed`
-- that it has failed. Its fault has a cause, and is the output's just where that failed
pub record RanRead (tells failed : Type 0) (files : Files) (range : InRange) (w w_new n n_new : OutputState) (status : ℕ) :
    Type 0 where
  pub ending : Option ReadFault
  pub outcome : EndsAs read_telling (IsRead tells files range w w_new)
      (λ fault. tells → WritesPart files range w.taken w_new.taken) ending n n_new status
  pub cause : IfErr (result_of ending) (IsCause (reading_causes tells failed files range))
  pub writer : WriterFailures (result_of ending) w.failures w_new.failures
