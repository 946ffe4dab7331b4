-- What a journal is on a disk, and what a crash leaves of it.
use Rattle.std.specs.Prelude.{◌≡◌, ◌≢◌, ◌⊎◌, ℕ, false, List, [], ◌∷◌, ◌++◌, length, Option, Some, IsSomeAnd}
use Rattle.std.specs.List.{AllByRecursion}
use Rattle.disk.specs.Files.{File, MayBecome, settled}
use Rattle.disk.specs.Memory.{shown_now}
use Rattle.disk.specs.States.{Entry, State, NameMayLeave, kept}
use Rattle.journal.specs.Batches.{batches_text, HasBatches, IsBody, IsClosed}
use Rattle.journal.specs.declared.journal.Journal.{Journal}

abbrev pub name_of : Journal → List ℕ
name_of journal = journal.name

abbrev pub end_of : Journal → ℕ
end_of journal = journal.end

-- no sync has failed
abbrev pub IsSound : State → Type 0
IsSound state = state.lost ≡ false

-- a file under a name that is on the disk
abbrev pub only_file : File → Entry
only_file file = record { now = Some file; past = []; moved = false }

-- The journal's file has these batches and a closed octet behind them, all of it on the disk.
pub record Stands (journal : Journal) (state : State) (bodies : List (List ℕ)) : Type 0 where
  pub gate : ℕ
  pub closed : gate ≢ 1
  pub entry : state.entries journal.name ≡ only_file (settled (batches_text bodies ++ gate ∷ []))
  pub sound : state.lost ≡ false
  pub end : journal.end ≡ length (batches_text bodies)
  pub sized : AllByRecursion IsBody bodies

-- whatever a crash leaves under a name is a file of batches that are P
abbrev pub LeavesBatches : State → List ℕ → (List (List ℕ) → Type 0) → Type 0
LeavesBatches state name P = (octets : Option (List ℕ)) → NameMayLeave (state.entries name) octets
    → IsSomeAnd octets (λ file. (bodies : List (List ℕ)) × HasBatches file bodies × P bodies)

-- the batches from before, with one more or without it
abbrev pub WithOrWithout : List (List ℕ) → List ℕ → List (List ℕ) → Type 0
WithOrWithout bodies body found = (found ≡ bodies) ⊎ (found ≡ bodies ++ body ∷ [])

-- a file is the only one under a name, on the disk, and no sync has failed: as after a restart
pub record IsOnDisk (state : State) (name octets : List ℕ) : Type 0 where
  pub entry : state.entries name ≡ only_file (settled octets)
  pub sound : state.lost ≡ false

-- a read of the file under a name shows this one, and no sync has failed
pub record Shows (state : State) (name : List ℕ) (file : File) : Type 0 where
  pub now : (state.entries name).now ≡ Some file
  pub sound : state.lost ≡ false

-- the batches of a file end at an offset
pub record EndsAt (file : List ℕ) (bodies : List (List ℕ)) (end : ℕ) : Type 0 where
  pub tail : List ℕ
  pub text : file ≡ batches_text bodies ++ tail
  pub closed : IsClosed tail
  pub sized : AllByRecursion IsBody bodies
  pub end_is : end ≡ length (batches_text bodies)

-- A file shows batches, a closed octet and anything behind it, and a crash leaves the same batches.
pub record IsClosing (state : State) (name : List ℕ) (bodies : List (List ℕ)) : Type 0 where
  pub file : File
  pub entry : state.entries name ≡ only_file file
  pub sound : state.lost ≡ false
  pub gate : ℕ
  pub behind : List ℕ
  pub shut : gate ≢ 1
  pub shown : file.shown ≡ batches_text bodies ++ gate ∷ behind
  pub leaves : (octets : List ℕ) → MayBecome file octets → HasBatches octets bodies
  pub sized : AllByRecursion IsBody bodies

-- batches and a closed octet, all of it on the disk
pub record IsAtRest (state : State) (name : List ℕ) (bodies : List (List ℕ)) : Type 0 where
  pub gate : ℕ
  pub shut : gate ≢ 1
  pub file : IsOnDisk state name (batches_text bodies ++ gate ∷ [])
  pub sized : AllByRecursion IsBody bodies

-- a crash leaves these batches
abbrev pub LeavesThese : State → List ℕ → List (List ℕ) → Type 0
LeavesThese state name bodies = LeavesBatches state name (λ found. found ≡ bodies)

-- what a journal is that was opened on a file
pub record OpensOn (journal : Journal) (state : State) (file text : List ℕ) : Type 0 where
  pub bodies : List (List ℕ)
  pub has : HasBatches file bodies
  pub stands : Stands journal state bodies
  pub text_is : text ≡ batches_text bodies

-- each other name is as it was
abbrev pub KeepsOthers : State → State → List ℕ → Type 0
KeepsOthers old new name = (other : List ℕ) → other ≢ name → new.entries other ≡ old.entries other

-- each other name is as it was, but that what is there may be on the disk now
abbrev pub KeepsOrSettlesOthers : State → State → List ℕ → Type 0
KeepsOrSettlesOthers old new name = (other : List ℕ) → other ≢ name
    → (new.entries other ≡ old.entries other) ⊎ (new.entries other ≡ kept (old.entries other))

-- each other name is on the disk as it was
abbrev pub SettlesOthers : State → State → List ℕ → Type 0
SettlesOthers old new name = (other : List ℕ) → other ≢ name → new.entries other ≡ kept (old.entries other)

-- what a read shows under each name is what it showed
abbrev pub ShowsTheSame : State → State → Type 0
ShowsTheSame old new = (name : List ℕ) → shown_now (new.entries name) ≡ shown_now (old.entries name)

-- what a read shows under a name has no batches
abbrev pub ShowsNoBatch : State → List ℕ → Type 0
ShowsNoBatch state name = (octets : List ℕ) → shown_now (state.entries name) ≡ Some octets → HasBatches octets []

-- a crash leaves under a name what it might have left there before, or a journal without batches
abbrev pub LeavesNoBatch : State → State → List ℕ → Type 0
LeavesNoBatch old new name = (octets : Option (List ℕ)) → NameMayLeave (new.entries name) octets
    → NameMayLeave (old.entries name) octets ⊎ IsSomeAnd octets (λ file. HasBatches file [])
