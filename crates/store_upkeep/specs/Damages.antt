-- What is wrong with files.
use Rattle.std.specs.Prelude.{◌≡◌, ◌⊎◌, ℕ, List, ◌++◌, Option, None, Some, IsNone, IsSomeAnd, Contains, map}
use Rattle.std.specs.List.{AllByRecursion}
use Rattle.disk.specs.States.{Files}
use Rattle.octet_devices.specs.Device.{InputState}
use Rattle.record_store.specs.Names.{IsJournal, IsSegment}
use Rattle.store_reading.specs.Damages.{IsJournalDamage, IsSegmentDamage}
use Rattle.store_reading.specs.Days.{IsPeriodText}
use Rattle.store_reading.specs.Folders.{Opens}
use Rattle.store_reading.specs.Journals.{IsJournalFile}
use Rattle.store_reading.specs.declared.fault.CheckFault.{CheckFault}
use Rattle.store_reading.specs.declared.fault.CheckFault.TheVariants.{Damaged, Input, Memory}
use Rattle.store_reading.specs.declared.fault.FileFault.{FileFault}
use Rattle.store_reading.specs.declared.journal_file.JournalFile.{JournalFile}
use Rattle.store_upkeep.specs.Whole.{IsDamagedAt, IsWholeAt, IsWholeFile}
use Rattle.store_upkeep.specs.declared.damage.DamagedFile.{DamagedFile}

-- a file is not whole, and this is its damage
pub record IsDamageOf (name file : List ℕ) (damage : FileFault) : Type 0 where
  pub not_whole : ¬ (IsWholeFile name file)
  pub journal : IsJournal name → IsJournalDamage file damage
  pub segment : (day : List ℕ) → IsPeriodText day → IsSegment day name → IsSegmentDamage day name file damage

-- there is a file under a name that has this damage
abbrev pub IsToldAt : Files → List ℕ → FileFault → Type 0
IsToldAt files name damage = IsSomeAnd (files name) (λ file. IsDamageOf name file damage)

-- the file under a name is whole where no damage is found, and has that which is found
abbrev pub IsVerdict : Option FileFault → Files → List ℕ → Type 0
IsVerdict None files name = IsWholeAt files name
IsVerdict (Some damage) files name = IsToldAt files name damage

-- what a fault of a check says of the file
abbrev pub IsFoundBy : CheckFault → Option FileFault → Type 0
IsFoundBy (Damaged damage) found = found ≡ Some damage
IsFoundBy (Input fault) found = ⊥
IsFoundBy Memory found = ⊥

-- a file was opened, or there is none
abbrev pub OpensOrNone : {R : Type 0} → (R → InputState) → Option R → Files → List ℕ → Type 0
OpensOrNone state None files name = IsNone (files name)
OpensOrNone state (Some file) files name = Opens files name (state file)

-- a journal was read, or there is none
abbrev pub ReadsOrNone : Option JournalFile → Option (List ℕ) → Type 0
ReadsOrNone None file = IsNone file
ReadsOrNone (Some journal) file = IsSomeAnd file (IsJournalFile journal)

-- each is damaged
abbrev pub AreDamaged : Files → List DamagedFile → Type 0
AreDamaged files ds = AllByRecursion (λ (d : DamagedFile). IsDamagedAt files d.name) ds

-- each has the damage that is told of it
abbrev pub AreAsTold : Files → List DamagedFile → Type 0
AreAsTold files ds = AllByRecursion (λ (d : DamagedFile). IsToldAt files d.name d.damage) ds

-- all that was in a list is in it still, in its order, and what is new is behind it
abbrev pub AddsTo : List DamagedFile → List DamagedFile → Type 0
AddsTo old new = (added : List DamagedFile) × (new ≡ old ++ added)

abbrev pub names_of : List DamagedFile → List (List ℕ)
names_of ds = map (λ (d : DamagedFile). d.name) ds

-- a file is whole, or listed
abbrev pub IsWholeOrListed : Files → List DamagedFile → List ℕ → Type 0
IsWholeOrListed files ds name = IsWholeAt files name ⊎ Contains (names_of ds) name
