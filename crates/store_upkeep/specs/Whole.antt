-- Files of a store that are whole.
use Rattle.std.specs.Prelude.{◌≡◌, ℕ, List, Some, IsSomeAnd}
use Rattle.disk.specs.States.{Files}
use Rattle.record_store.specs.Holdings.{IsWholeJournal}
use Rattle.record_store.specs.Names.{IsJournal, IsSegment}
use Rattle.store_reading.specs.Days.{IsPeriodText}
use Rattle.store_reading.specs.Whole.{IsWholeSegment}

-- a file is whole, as a journal or as a segment where its name is that of one
pub record IsWholeFile (name file : List ℕ) : Type 0 where
  pub journal : IsJournal name → IsWholeJournal file
  pub segment : (day : List ℕ) → IsPeriodText day → IsSegment day name → IsWholeSegment day name file

-- the file under a name, if there is one, is whole
abbrev pub IsWholeAt : Files → List ℕ → Type 0
IsWholeAt files name = (file : List ℕ) → files name ≡ Some file → IsWholeFile name file

-- there is one, and it is not whole
abbrev pub IsDamagedAt : Files → List ℕ → Type 0
IsDamagedAt files name = IsSomeAnd (files name) (λ file. ¬ (IsWholeFile name file))
