-- Why files are not verified.
use Rattle.std.specs.Prelude.{◌⊎◌, ℕ, List, Contains, IsSome}
use Rattle.disk.specs.States.{Files}
use Rattle.record_store.specs.Names.{IsJournal, IsSegment}
use Rattle.store_reading.specs.Causes.{Causes}
use Rattle.store_reading.specs.Days.{IsPeriodText}

-- a name is that of a journal or of a segment
abbrev pub IsCounted : List ℕ → Type 0
IsCounted name = IsJournal name ⊎ ((day : List ℕ) × IsPeriodText day × IsSegment day name)

-- and it is listed
abbrev pub IsListedFile : List (List ℕ) → List ℕ → Type 0
IsListedFile names name = Contains names name × IsCounted name

-- and there is a file under it
pub record IsCountedFile (tells : Type 0) (files : Files) (name : List ℕ) : Type 0 where
  pub counts : IsCounted name
  pub there : tells → IsSome (files name)

-- of the checking of files of these names: what is damaged is listed, and is no fault
abbrev pub check_causes : Type 0 → (List ℕ → Type 0) → Causes
check_causes failed IsChecked = record {
  failed = failed;
  read = IsChecked;
  damaged = λ name fault. ⊥;
  writes = ⊥;
}
