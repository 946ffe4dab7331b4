-- Why a folder is not read.
use Rattle.std.specs.Prelude.{◌≡◌, ◌⊎◌, ℕ, ◌<◌, ◌^◌, List, Contains, IsSome, IsSomeAnd, Result, Err, codes}
use Rattle.disk.specs.States.{Files}
use Rattle.disk.specs.declared.fault.DiskFault.{DiskFault}
use Rattle.disk.specs.declared.fault.DiskFault.TheVariants.{Missing, Exists, Full, Failed, Memory}
use Rattle.archive_sets.specs.declared.range.InRange.{InRange}
use Rattle.record_store.specs.Names.{IsJournal, IsSegment}
use Rattle.store_reading.specs.Damages.{IsDamagedJournal, IsDamagedSegment}
use Rattle.store_reading.specs.Ranges.{MayMeet}
use Rattle.store_reading.specs.declared.fault.FileFault.{FileFault}
use Rattle.store_reading.specs.declared.fault.ReadFault.{ReadFault}
use Rattle.store_reading.specs.declared.fault.ReadFault.TheVariants.{Folder, Open, Damaged, Read, Gone, TooManyDays}
use Rattle.store_reading.specs.declared.fault.ReadFault.TheVariants.{Write, Memory as No_memory}

-- what has to be so where a fault is told: that the folder failed; that a file is one of those that are read; that it is
-- damaged so; that days are written
pub record Causes : Type 1 where
  pub failed : Type 0
  pub read : List ℕ → Type 0
  pub damaged : List ℕ → FileFault → Type 0
  pub writes : Type 0

-- the folder has failed; of a file that is missing or in the way, and of want of memory, nothing is said
abbrev pub IsFolderCause : Type 0 → DiskFault → Type 0
IsFolderCause failed Missing = Unit {0}
IsFolderCause failed Exists = Unit {0}
IsFolderCause failed Full = failed
IsFolderCause failed Failed = failed
IsFolderCause failed Memory = Unit {0}

-- the same of a file, but that one which is missing is told as gone
abbrev pub IsOpenCause : Type 0 → DiskFault → Type 0
IsOpenCause failed Missing = ⊥
IsOpenCause failed Exists = Unit {0}
IsOpenCause failed Full = failed
IsOpenCause failed Failed = failed
IsOpenCause failed Memory = Unit {0}

-- want of memory needs no cause, nor do files that come and go
abbrev pub IsCause : Causes → ReadFault → Type 0
IsCause causes (Folder fault) = IsFolderCause causes.failed fault
IsCause causes (Open name fault) = causes.read name × IsOpenCause causes.failed fault
IsCause causes (Damaged name fault) = causes.damaged name fault
IsCause causes (Read name fault) = causes.read name
IsCause causes Gone = Unit {0}
IsCause causes TooManyDays = causes.writes
IsCause causes Write = causes.writes
IsCause causes No_memory = Unit {0}

-- of the listing of names
abbrev pub list_causes : Type 0 → Causes
list_causes failed = record { failed = failed; read = λ name. ⊥; damaged = λ name fault. ⊥; writes = ⊥ }

-- of the opening of a file
abbrev pub open_causes : Type 0 → List ℕ → Causes
open_causes failed name = record {
  failed = failed;
  read = λ other. other ≡ name;
  damaged = λ other fault. ⊥;
  writes = ⊥;
}

-- of the reading of files of these names, whose octets may be damaged so
abbrev pub file_causes : Type 0 → Type 0 → Files → (List ℕ → Type 0) → (List ℕ → List ℕ → FileFault → Type 0) → Causes
file_causes tells failed files IsRead IsDamaged = record {
  failed = failed;
  read = IsRead;
  damaged = λ name fault. IsRead name × (tells → IsSomeAnd (files name) (λ file. IsDamaged name file fault));
  writes = ⊥;
}

-- a file that is read into memory: a journal or a mixed segment
abbrev pub IsOfMemoryName : List ℕ → Type 0
IsOfMemoryName name = IsJournal name ⊎ IsSegment (codes "mixed") name

-- it is damaged so
abbrev pub IsDamagedInMemory : List ℕ → List ℕ → FileFault → Type 0
IsDamagedInMemory name file fault =
    (IsJournal name × IsDamagedJournal file fault)
    ⊎ (IsSegment (codes "mixed") name × IsDamagedSegment (codes "mixed") name file fault)

-- one that is listed
abbrev pub IsListedInMemory : List (List ℕ) → List ℕ → Type 0
IsListedInMemory names name = Contains names name × IsOfMemoryName name

-- a name that is listed, of a segment of the period
abbrev pub IsListedSegment : List (List ℕ) → List ℕ → List ℕ → Type 0
IsListedSegment names period name = Contains names name × IsSegment period name

-- the name is that of a segment of a day that may have a record in the range
pub record IsSegmentIn (range : InRange) (name : List ℕ) : Type 0 where
  pub day : List ℕ
  pub meets : MayMeet range day
  pub named : IsSegment day name

-- a file is read of a range: a journal, a mixed segment, or a segment of a day that may have a record in it
pub record IsReadOf (tells : Type 0) (files : Files) (range : InRange) (name : List ℕ) : Type 0 where
  pub counts : IsOfMemoryName name ⊎ IsSegmentIn range name
  pub there : tells → IsSome (files name)

-- the octets of a segment of a day that may have a record in the range are damaged so
pub record IsDamagedIn (range : InRange) (name file : List ℕ) (fault : FileFault) : Type 0 where
  pub segment : IsSegmentIn range name
  pub damaged : IsDamagedSegment segment.day name file fault

-- a file that is read of a range is damaged so, as a journal or as a segment
abbrev pub IsDamagedOf : Files → InRange → List ℕ → FileFault → Type 0
IsDamagedOf files range name fault = IsSomeAnd (files name) (λ file.
    IsDamagedInMemory name file fault ⊎ IsDamagedIn range name file fault)

-- of the reading of a range
abbrev pub reading_causes : Type 0 → Type 0 → Files → InRange → Causes
reading_causes tells failed files range = record {
  failed = failed;
  read = IsReadOf tells files range;
  damaged = λ name fault. tells → IsDamagedOf files range name fault;
  writes = Unit {0};
}

-- the writer failed at this fault alone
abbrev pub WriterFailures : {T : Type 0} → Result T ReadFault → ℕ → ℕ → Type 0
WriterFailures (Err Write) old new = old < 2 ^ 63 → old < new
WriterFailures result old new = new ≡ old
