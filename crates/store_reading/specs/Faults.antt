-- Why a folder was not read, and for which file that is told.
use Rattle.std.specs.Prelude.{◌≡◌, ◌⊎◌, ℕ, ◌+◌, List, [], ◌∷◌, ◌++◌}
use Rattle.archive_join.specs.declared.fault.JoinFault.{JoinFault}
use Rattle.archive_join.specs.declared.fault.JoinFault.TheVariants.{Archive, Read, Endless, Write, Memory}
use Rattle.archive_streams.specs.declared.fault.InputFault.TheVariants.{Device, Endless as No_end}
use Rattle.archive_streams.specs.declared.fault.SideFault.{SideFault}
use Rattle.archive_streams.specs.declared.fault.SideFault.TheVariants.{Archive as side_Archive, Input as side_Input}
use Rattle.record_store.specs.Names.{IsSegment}
use Rattle.store_reading.specs.declared.fault.CheckFault.{CheckFault}
use Rattle.store_reading.specs.declared.fault.CheckFault.TheVariants.{Damaged, Input, Memory as No_memory}
use Rattle.store_reading.specs.declared.fault.FileFault.TheVariants.{Archive as No_archive}
use Rattle.store_reading.specs.declared.fault.ReadFault.{ReadFault}
use Rattle.store_reading.specs.declared.fault.ReadFault.TheVariants.{Damaged as Is_damaged, Read as Not_read, Gone}
use Rattle.store_reading.specs.declared.fault.ReadFault.TheVariants.{Write as Not_written, Memory as Out_of_memory}

-- why no entry of a file comes next
abbrev pub check_fault_of : SideFault → CheckFault
check_fault_of (side_Archive fault) = Damaged (No_archive fault)
check_fault_of (side_Input fault) = Input fault

-- the fault of a file is told for the file of this name
abbrev pub IsFaultAt : List ℕ → CheckFault → ReadFault → Type 0
IsFaultAt name (Damaged fault) found = found ≡ Is_damaged name fault
IsFaultAt name (Input fault) found = found ≡ Not_read name fault
IsFaultAt name No_memory found = found ≡ Out_of_memory

-- so many of the names are those of segments of the day
abbrev pub HasSegments : List ℕ → List (List ℕ) → ℕ → Type 0
HasSegments day [] count = count ≡ 0
HasSegments day (name ∷ names) count =
    (IsSegment day name × ((less : ℕ) × (count ≡ less + 1) × HasSegments day names less))
    ⊎ (¬ (IsSegment day name) × HasSegments day names count)

-- the segments of the day that are among these names are inputs in their order, and the one of this number has this name
pub record IsInputNamed (day : List ℕ) (names : List (List ℕ)) (input : ℕ) (name : List ℕ) : Type 0 where
  pub front : List (List ℕ)
  pub back : List (List ℕ)
  pub parts : names ≡ front ++ name ∷ back
  pub before : HasSegments day front input
  pub segment : IsSegment day name

-- none has this number
abbrev pub IsNoInput : List ℕ → List (List ℕ) → ℕ → Type 0
IsNoInput day names input = (name : List ℕ) → ¬ (IsInputNamed day names input name)

-- the fault of an input is told for the file that the input is, if it is one of these and memory does not lack
abbrev pub IsFaultOfInput : List ℕ → List (List ℕ) → ℕ → CheckFault → ReadFault → Type 0
IsFaultOfInput day names input fault found =
    (((found ≡ Gone) × IsNoInput day names input) ⊎ (found ≡ Out_of_memory))
    ⊎ ((name : List ℕ) × IsInputNamed day names input name × IsFaultAt name fault found)

-- the fault of joining the segments is told for the one that has it
abbrev pub IsJoinFault : List ℕ → List (List ℕ) → JoinFault → ReadFault → Type 0
IsJoinFault day names (Archive input fault) found =
    IsFaultOfInput day names input (Damaged (No_archive fault)) found
IsJoinFault day names (Read input) found = IsFaultOfInput day names input (Input Device) found
IsJoinFault day names (Endless input) found = IsFaultOfInput day names input (Input No_end) found
IsJoinFault day names (Write sent) found = found ≡ Not_written
IsJoinFault day names Memory found = found ≡ Out_of_memory
