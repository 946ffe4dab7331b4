-- Why a call on a store fails.
use Rattle.std.specs.Prelude.{◌≡◌, ◌≢◌, ◌≤◌, ◌⊎◌, ℕ, ◌+◌, ◌<◌, ◌^◌, List, None, Some, length}
use Rattle.disk.specs.Memory.{shown_now}
use Rattle.disk.specs.States.{State}
use Rattle.disk.specs.declared.fault.DiskFault.{DiskFault}
use Rattle.disk.specs.declared.fault.DiskFault.TheVariants.{Missing, Exists, Full, Failed, Memory}
use Rattle.journal.specs.Journals.{IsSound, end_of}
use Rattle.journal.specs.declared.fault.JournalFault.{JournalFault}
use Rattle.journal.specs.declared.fault.JournalFault.TheVariants.{Disk, TooLong}
use Rattle.record_store.specs.Shown.{IsNewestShown, ShowsNoJournal, journal_shown}
use Rattle.record_store.specs.Stores.{IsBroken, Sets, Stands}
use Rattle.record_store.specs.declared.fault.StoreFault.{StoreFault}
use Rattle.record_store.specs.declared.fault.StoreFault.TheVariants.{Broken, Journal, Folder, LastNumber}
use Rattle.record_store.specs.declared.fault.StoreFault.TheVariants.{Memory as No_memory}
use Rattle.record_store.specs.declared.store.RecordStore.{RecordStore}

-- what has to be so where a fault is told: that a call has failed before; that the disk failed; that it is full, or too
-- much is asked of it; that a file was missing or in the way; that a journal is too long
pub record Causes : Type 1 where
  pub broken : Type 0
  pub failed : Type 0
  pub full : Type 0
  pub other : Type 0
  pub long : Type 0

-- want of memory needs no cause
abbrev pub IsDiskCause : Causes → DiskFault → Type 0
IsDiskCause causes Missing = causes.other
IsDiskCause causes Exists = causes.other
IsDiskCause causes Full = causes.full
IsDiskCause causes Failed = causes.failed
IsDiskCause causes Memory = Unit {0}

abbrev pub IsJournalCause : Causes → JournalFault → Type 0
IsJournalCause causes (Disk fault) = IsDiskCause causes fault
IsJournalCause causes TooLong = causes.long

abbrev pub IsCause : Causes → StoreFault → Type 0
IsCause causes Broken = causes.broken
IsCause causes (Journal number fault) = IsJournalCause causes fault
IsCause causes (Folder fault) = IsDiskCause causes fault
IsCause causes (LastNumber number) = ⊥
IsCause causes No_memory = Unit {0}

-- what has to be so where a disk's fault is told of a call on files: that the disk failed, where it is told as failed or
-- as full; that a file was missing; that one was in the way. Want of memory needs no cause.
abbrev pub IsFileCause : Type 0 → Type 0 → Type 0 → DiskFault → Type 0
IsFileCause failed missing exists Missing = missing
IsFileCause failed missing exists Exists = exists
IsFileCause failed missing exists Full = failed
IsFileCause failed missing exists Failed = failed
IsFileCause failed missing exists Memory = Unit {0}

-- of a draft that is begun: no file is missing or in the way
abbrev pub IsBeginningCause : Type 0 → Type 0 → DiskFault → Type 0
IsBeginningCause tells failed fault = IsFileCause failed (¬ tells) (¬ tells) fault

-- of a call on a draft: its file is missing only where a read shows none, and none is in the way
abbrev pub IsDraftCause : Type 0 → Type 0 → State → List ℕ → DiskFault → Type 0
IsDraftCause tells failed state name fault =
    IsFileCause failed (tells → shown_now (state.entries name) ≡ None) (¬ tells) fault

-- a full disk is told
abbrev pub TellsFull : StoreFault → Type 0
TellsFull Broken = ⊥
TellsFull (Journal number fault) = fault ≡ Disk Full
TellsFull (Folder fault) = fault ≡ Full
TellsFull (LastNumber number) = ⊥
TellsFull No_memory = ⊥

-- a fault of a journal is told of this number
abbrev pub TellsNumber : ℕ → StoreFault → Type 0
TellsNumber n Broken = Unit {0}
TellsNumber n (Journal number fault) = number ≡ n
TellsNumber n (Folder fault) = Unit {0}
TellsNumber n (LastNumber number) = Unit {0}
TellsNumber n No_memory = Unit {0}

-- a journal that is shown is too long to be opened
pub record ShowsTooLong (state : State) : Type 0 where
  pub number : ℕ
  pub octets : List ℕ
  pub small : number < 2 ^ 64
  pub shown : journal_shown state number ≡ Some octets
  pub long : 2 ^ 40 ≤ length octets

-- of the opening of a journal that a read shows
abbrev pub shown_causes : Type 0 → Type 0 → State → List ℕ → Causes
shown_causes tells failed state name = record {
  broken = ⊥;
  failed = failed;
  full = failed;
  other = tells → IsSound state → (octets : List ℕ) → shown_now (state.entries name) ≢ Some octets;
  long = tells → IsSound state → (octets : List ℕ) → shown_now (state.entries name) ≡ Some octets
      → 2 ^ 40 ≤ length octets;
}

-- of the opening of the newest journal that a read shows
abbrev pub newest_causes : Type 0 → Type 0 → State → ℕ → Causes
newest_causes tells failed state number = record {
  broken = ⊥;
  failed = failed;
  full = failed;
  other = tells → IsSound state → (octets : List ℕ) → ¬ (IsNewestShown state number octets);
  long = tells → IsSound state → (octets : List ℕ) → IsNewestShown state number octets → ShowsTooLong state;
}

-- of the making of the first journal
abbrev pub first_causes : Type 0 → Type 0 → State → Causes
first_causes tells failed state = record {
  broken = ⊥;
  failed = failed;
  full = failed;
  other = tells → ¬ (ShowsNoJournal state);
  long = ⊥;
}

-- of a list of the journals: none is missing or in the way
abbrev pub listing_causes : Type 0 → Type 0 → Causes
listing_causes tells failed = record {
  broken = ⊥;
  failed = failed;
  full = failed;
  other = ¬ tells;
  long = ⊥;
}

-- of the reading of the journal of a number: it is missing only where a read shows none, and too long only if it is
abbrev pub reading_causes : Type 0 → Type 0 → State → ℕ → Causes
reading_causes tells failed state number = record {
  broken = ⊥;
  failed = failed;
  full = failed;
  other = tells → IsSound state → (octets : List ℕ) → journal_shown state number ≢ Some octets;
  long = tells → IsSound state → (octets : List ℕ) → journal_shown state number ≡ Some octets → 2 ^ 40 ≤ length octets;
}

-- of an opening: no file is missing or in the way unless a sync has failed
abbrev pub opening_causes : Type 0 → Type 0 → State → Causes
opening_causes tells failed state = record {
  broken = ⊥;
  failed = failed;
  full = failed;
  other = tells → IsSound state → ⊥;
  long = tells → IsSound state → ShowsTooLong state;
}

-- of a commit: nor for a store that stands; a journal of 2 ^ 62 octets and a batch of 2 ^ 32, its seal of 9 among them,
-- are full
abbrev pub commit_causes : Type 0 → Type 0 → RecordStore → State → Causes
commit_causes tells failed store state = record {
  broken = IsBroken store;
  failed = failed;
  full = failed ⊎ ((2 ^ 62 ≤ end_of store.journal) ⊎ (2 ^ 32 ≤ length store.batch.items + 9));
  other = tells → (sets : Sets) → ¬ (Stands store state sets);
  long = ⊥;
}
