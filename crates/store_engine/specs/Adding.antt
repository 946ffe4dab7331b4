-- What `add` does.
use Rattle.std.specs.Prelude.{◌≡◌, ◌⊎◌, ℕ, List, ◌++◌, Result, Ok, Err, codes, decimal}
use Rattle.disk.specs.States.{State}
use Rattle.octet_devices.specs.Device.{InputState, OutputState}
use Rattle.syslog_fields.specs.Canonical.{TimeForm}
use Rattle.archive_reports.specs.FaultLines.{fault_words}
use Rattle.archive_streams.specs.declared.fault.InputFault.TheVariants.{Device, Endless}
use Rattle.archive_streams.specs.declared.fault.SideFault.TheVariants.{Archive, Input as Of_reader}
use Rattle.driver.specs.Devices.{Reports}
use Rattle.driver.specs.declared.status.TheConstants.{DONE, FAULT, NO_MEMORY, REFUSED}
use Rattle.record_store.specs.declared.keeping.KeepFault.TheVariants.{Disk, Day, Differs}
use Rattle.driver.specs.Ended.{Telling, Tells}
use Rattle.store_addition.specs.Additions.{AddsPart, AddsWhole, FailuresAt}
use Rattle.store_addition.specs.declared.addition.Addition.{Addition}
use Rattle.store_addition.specs.declared.fault.AddFault.{AddFault}
use Rattle.store_addition.specs.declared.fault.AddFault.TheVariants.{Input, Segment, Memory}
use Rattle.store_addition.specs.declared.fault.Interrupted.{Interrupted}
use Rattle.store_engine.specs.Lines.{digest_line}
use Rattle.store_engine.specs.Reading.{disk_line, disk_status}

-- how much of an archive is on the disk: the number of its first entries, and the time of the last of them or NILVALUE
pub record IsAddedLine (added : Addition) (line : List ℕ) : Type 0 where
  pub time : List ℕ
  pub form : TimeForm added.last time
  pub line_is : line ≡ codes "added " ++ decimal added.entries ++ codes " entries, up to " ++ time ++ codes "\n"

-- what is wrong; a segment that has other octets than its name says is told as `verify` does
abbrev pub add_line : AddFault → List ℕ
add_line (Input (Archive fault)) = fault_words fault
add_line (Input (Of_reader Device)) = codes "read fault\n"
add_line (Input (Of_reader Endless)) = codes "endless input\n"
add_line (Segment (Disk fault)) = disk_line fault (codes "store fault\n")
add_line (Segment Day) = codes "store fault\n"
add_line (Segment (Differs name)) = digest_line name
add_line Memory = codes "want of memory\n"

abbrev pub add_status : AddFault → ℕ
add_status (Input (Archive fault)) = REFUSED
add_status (Input (Of_reader fault)) = FAULT
add_status (Segment (Disk fault)) = disk_status fault
add_status (Segment Day) = FAULT
add_status (Segment (Differs name)) = REFUSED
add_status Memory = NO_MEMORY

-- its line has something that takes memory
abbrev pub takes_memory : AddFault → Type 0
takes_memory (Input (Archive fault)) = Unit {0}
takes_memory (Input (Of_reader fault)) = ⊥
takes_memory (Segment (Disk fault)) = ⊥
takes_memory (Segment Day) = ⊥
takes_memory (Segment (Differs name)) = Unit {0}
takes_memory Memory = ⊥

abbrev pub add_telling : Telling AddFault
add_telling = record { line = add_line; status = add_status; takes_memory = takes_memory }

-- how much is on the disk is told, with this status, or that memory ran out for it
abbrev pub TellsAdded : Addition → ℕ → OutputState → OutputState → ℕ → Type 0
TellsAdded added status n n_new result =
    ((line : List ℕ) × IsAddedLine added line × Reports line status n n_new result)
    ⊎ Reports (codes "want of memory\n") NO_MEMORY n n_new result

-- the fault is told, and behind it how much is on the disk
pub record TellsInterrupted (at : Interrupted) (n n_new : OutputState) (status : ℕ) : Type 0 where
  pub between : OutputState
  pub first : ℕ
  pub fault : Tells add_telling at.fault n between first
  pub added : TellsAdded at.added first between n_new status

-- all of the archive is on the disk, and nothing is told; or a part of it, and that is told
abbrev pub EndsAddition : Type 0 → Type 0 → InputState → InputState → State → State → OutputState → OutputState → ℕ
    → Result Addition Interrupted → Type 0
EndsAddition tells failed r r_new old new n n_new status (Ok added) =
    (status ≡ DONE) × (n_new ≡ n) × (r_new.failures ≡ r.failures) × AddsWhole tells r r_new old new added
EndsAddition tells failed r r_new old new n n_new status (Err at) =
    TellsInterrupted at n n_new status × FailuresAt at.fault r.failures r_new.failures
    × AddsPart tells failed r r_new old new at.added at.fault

-- What an addition does, whatever the disk and the devices do; `tells` says that the disk tells itself, `failed` that it
-- has failed.
pub record RanAdd (tells failed : Type 0) (r r_new : InputState) (old new : State) (n n_new : OutputState) (status : ℕ) :
    Type 0 where
  pub ending : Result Addition Interrupted
  pub outcome : EndsAddition tells failed r r_new old new n n_new status ending
