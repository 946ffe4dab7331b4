-- How `read` ends.
use Rattle.std.specs.Prelude.{◌≡◌, ℕ, Bool, Result, Ok, Err, codes, if◌then◌else◌}
use Rattle.disk.specs.States.{Files}
use Rattle.octet_devices.specs.Device.{OutputState}
use Rattle.driver.specs.Devices.{Reports}
use Rattle.driver.specs.declared.status.TheConstants.{DONE, FAULT, NO_MEMORY, REFUSED}
use Rattle.driver.specs.declared.stopped.Stopped.{Stopped as Reason}
use Rattle.driver.specs.declared.stopped.Stopped.TheVariants.{Diagnostics, Endless, Memory, Read, Write}
use Rattle.driver.specs.Ended.{Tells}
use Rattle.archive_sets.specs.declared.range.InRange.{InRange}
use Rattle.record_choice.specs.Choices.{choice_meaning}
use Rattle.session_output.specs.Runs.{Outputs}
use Rattle.store_engine.specs.Reading.{read_telling}
use Rattle.store_reading.specs.declared.fault.ReadFault.{ReadFault}
use Rattle.read_engine.specs.Forms.{WritesChosen}
use Rattle.read_engine.specs.Readings.{IsRangeOf, IsWanted}
use Rattle.read_engine.specs.declared.options.ReadOptions.{ReadOptions}

-- a stop is told by its line; where the diagnostics failed, nothing is told
abbrev pub TellsStop : Reason → OutputState → OutputState → ℕ → Type 0
TellsStop Read n n_new status = Reports (codes "read fault\n") FAULT n n_new status
TellsStop Endless n n_new status = Reports (codes "endless input\n") FAULT n n_new status
TellsStop Write n n_new status = Reports (codes "write fault\n") FAULT n n_new status
TellsStop Diagnostics n n_new status = (status ≡ FAULT) × (n_new ≡ n)
TellsStop Memory n n_new status = Reports (codes "want of memory\n") NO_MEMORY n n_new status

-- why the records were not written is told, or why the store was not read; else the status says whether all is done
abbrev pub TellsOutcome : Result (Unit {0}) ReadFault → Result Bool Reason → OutputState → OutputState → ℕ → Type 0
TellsOutcome reading (Err stop) n n_new status = TellsStop stop n n_new status
TellsOutcome (Err fault) (Ok refused) n n_new status = Tells read_telling fault n n_new status
TellsOutcome (Ok done) (Ok refused) n n_new status = (status ≡ (if refused then REFUSED else DONE)) × (n_new ≡ n)

-- of what a store holds of some times, the records that meet conditions were written in a form, and how that ended is told
pub record RanChoice (o : ReadOptions) (tells failed : Type 0) (files : Files) (old new : Outputs) (status : ℕ) : Type 0
  where
    pub range : InRange
    pub reading : Result (Unit {0}) ReadFault
    pub writing : Result Bool Reason
    pub before : OutputState
    pub times : IsRangeOf o.conditions.times range
    pub written : WritesChosen o.form (choice_meaning (IsWanted o.conditions) o.last) tells failed files range old
        (record { output = new.output; diagnostics = before }) reading writing
    pub told : TellsOutcome reading writing before new.diagnostics status
