-- What `read --partial` does: it leaves out the files that are damaged.
use Rattle.std.specs.Prelude.{◌≡◌, ◌⊎◌, ℕ, ◌==◌, List, [], ◌∷◌, Contains, if◌then◌else◌}
use Rattle.disk.specs.States.{Files}
use Rattle.octet_devices.specs.Device.{OutputState}
use Rattle.driver.specs.Ended.{Tells, TellsLine}
use Rattle.driver.specs.declared.status.TheConstants.{DONE, REFUSED}
use Rattle.archive_sets.specs.declared.range.InRange.{InRange}
use Rattle.record_store.specs.Names.{IsSegment}
use Rattle.store_reading.specs.Causes.{IsCause}
use Rattle.store_reading.specs.Days.{IsDayText}
use Rattle.store_reading.specs.Ranges.{MayMeet}
use Rattle.store_reading.specs.Whole.{MeetsRange}
use Rattle.store_reading.specs.declared.fault.ReadFault.{ReadFault}
use Rattle.store_upkeep.specs.Causes.{IsCountedFile, check_causes}
use Rattle.store_upkeep.specs.Damages.{AreAsTold, IsWholeOrListed, names_of}
use Rattle.store_upkeep.specs.declared.damage.DamagedFile.{DamagedFile}
use Rattle.store_engine.specs.Lines.{damage_lines}
use Rattle.store_engine.specs.Reading.{RanRead, read_telling}
use Rattle.read_engine.specs.LeftOut.{files_without}
use Rattle.read_engine.specs.Options.{IsPlain}
use Rattle.read_engine.specs.declared.options.ReadOptions.{ReadOptions}

-- a name is that of a segment of a day of which no entry is in the range
pub record IsOutside (range : InRange) (name : List ℕ) : Type 0 where
  pub day : List ℕ
  pub dated : IsDayText day
  pub named : IsSegment day name
  pub none : ¬ (MeetsRange range day)

-- where a name is that of a segment of a day, the day may have an entry in the range
abbrev pub MayBeInside : InRange → List ℕ → Type 0
MayBeInside range name = (day : List ℕ) → IsDayText day → IsSegment day name → MayMeet range day

-- these are the damaged files of a folder, of those that may have an entry in a range: each has the damage that is told of
-- it, and each other file is whole, or has none
pub record AreDamagedIn (files : Files) (range : InRange) (damaged : List DamagedFile) : Type 0 where
  pub as_told : AreAsTold files damaged
  pub inside : (name : List ℕ) → Contains (names_of damaged) name → MayBeInside range name
  pub others : (name : List ℕ) → IsWholeOrListed files damaged name ⊎ IsOutside range name

-- a line on each damaged file was told, or that memory ran out for them; where there is none, nothing
abbrev pub TellsDamaged : List DamagedFile → OutputState → OutputState → ℕ → Type 0
TellsDamaged [] n n_new status = (status ≡ DONE) × (n_new ≡ n)
TellsDamaged (d ∷ ds) n n_new status = TellsLine (damage_lines (d ∷ ds)) REFUSED n n_new status

-- the status of a reading, or where that is done, whether files were left out
abbrev pub status_of : ℕ → ℕ → ℕ
status_of told read = if read == DONE then told else read

-- what the other files hold was read
pub record ReadsOthers (o : ReadOptions) (tells failed : Type 0) (files : Files) (range : InRange) (told : ℕ)
    (w w_new n n_new : OutputState) (status : ℕ) : Type 0 where
  pub read : ℕ
  pub others : IsPlain o → RanRead tells failed files range w w_new n n_new read
  pub status_is : status ≡ status_of told read

-- the lines could not be written, and nothing was read
pub record ReadsNothing (told : ℕ) (w w_new n n_new : OutputState) (status : ℕ) : Type 0 where
  pub untold : ¬ ((told ≡ DONE) ⊎ (told ≡ REFUSED))
  pub status_is : status ≡ told
  pub output : w_new ≡ w
  pub diagnostics : n_new ≡ n

-- the damaged files were told, and then what the others hold was read
pub record LeavesOut (o : ReadOptions) (tells failed : Type 0) (files : Files) (range : InRange)
    (w w_new n n_new : OutputState) (status : ℕ) : Type 0 where
  pub damaged : List DamagedFile
  pub found : tells → AreDamagedIn files range damaged
  pub told : ℕ
  pub between : OutputState
  pub lines : TellsDamaged damaged n between told
  pub reading : ReadsOthers o tells failed (files_without (names_of damaged) files) range told w w_new between n_new status
      ⊎ ReadsNothing told w w_new between n_new status

-- a fault, which has a cause, stopped the search for damaged files, and is told
pub record SearchFails (tells failed : Type 0) (files : Files) (w w_new n n_new : OutputState) (status : ℕ) : Type 0 where
  pub fault : ReadFault
  pub cause : IsCause (check_causes failed (IsCountedFile tells files)) fault
  pub told : Tells read_telling fault n n_new status
  pub output : w_new ≡ w

-- what a reading that leaves out damaged files does, whatever the folder and the devices do
abbrev pub RanPartial : ReadOptions → Type 0 → Type 0 → Files → InRange → OutputState → OutputState → OutputState
    → OutputState → ℕ → Type 0
RanPartial o tells failed files range w w_new n n_new status =
    LeavesOut o tells failed files range w w_new n n_new status
    ⊎ SearchFails tells failed files w w_new n n_new status
