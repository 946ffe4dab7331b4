-- Why a call on a durable store fails.
use Rattle.std.specs.Prelude.{◌≡◌, ◌⊎◌, ℕ, ◌+◌, ◌^◌, List, Some}
use Rattle.disk.specs.States.{State}
use Rattle.disk.specs.declared.fault.DiskFault.TheVariants.{Full}
use Rattle.journal.specs.Journals.{IsSound}
use Rattle.archive_text.specs.Entries.{Entry}
use Rattle.record_store.specs.Causes.{Causes, IsCause, IsFileCause, TellsFull as StoreTellsFull, opening_causes}
use Rattle.record_store.specs.Causes.{reading_causes}
use Rattle.record_store.specs.Holdings.{IsWholeJournal}
use Rattle.record_store.specs.Keeping.{ShowsOther}
use Rattle.record_store.specs.Shown.{journal_shown}
use Rattle.record_store.specs.Stores.{AreAmong, IsBroken, Sets, Stands as JournalStands, number_of}
use Rattle.record_store.specs.declared.keeping.KeepFault.{KeepFault}
use Rattle.record_store.specs.declared.keeping.KeepFault.TheVariants.{Disk, Day, Differs}
use Rattle.record_store.specs.declared.store.RecordStore.{RecordStore}
use Rattle.durable_store.specs.Durables.{Stands}
use Rattle.durable_store.specs.declared.fault.CheckpointFault.{CheckpointFault}
use Rattle.durable_store.specs.declared.fault.CheckpointFault.TheVariants.{Store, Segment}
use Rattle.durable_store.specs.declared.fault.OpenFault.{OpenFault}
use Rattle.durable_store.specs.declared.fault.OpenFault.TheVariants.{Store as Of_store, Damaged, Memory}
use Rattle.durable_store.specs.declared.store.DurableStore.{DurableStore}

-- a full disk is told
abbrev pub TellsFull : CheckpointFault → Type 0
TellsFull (Store fault) = StoreTellsFull fault
TellsFull (Segment fault) = fault ≡ Disk Full

-- the journal of this number is shown, and is not whole
pub record ShowsDamaged (state : State) (number : ℕ) : Type 0 where
  pub octets : List ℕ
  pub shown : journal_shown state number ≡ Some octets
  pub damaged : ¬ (IsWholeJournal octets)

-- damage is told
abbrev pub IsDamage : OpenFault → Type 0
IsDamage (Of_store fault) = ⊥
IsDamage (Damaged number fault) = Unit {0}
IsDamage Memory = ⊥

-- what has to be so where an opening fails; want of memory needs no cause
abbrev pub IsOpeningCause : Type 0 → Type 0 → State → OpenFault → Type 0
IsOpeningCause tells failed state (Of_store fault) = IsCause (opening_causes tells failed state) fault
IsOpeningCause tells failed state (Damaged number fault) = tells → IsSound state → ShowsDamaged state number
IsOpeningCause tells failed state Memory = Unit {0}

-- where a journal that is shown is not read
abbrev pub IsReadingCause : Type 0 → Type 0 → State → ℕ → OpenFault → Type 0
IsReadingCause tells failed state number (Of_store fault) = IsCause (reading_causes tells failed state number) fault
IsReadingCause tells failed state number (Damaged at fault) = (at ≡ number)
    × (tells → IsSound state → (octets : List ℕ) → journal_shown state number ≡ Some octets → ¬ (IsWholeJournal octets))
IsReadingCause tells failed state number Memory = Unit {0}

-- ---- a checkpoint

-- a store stands on some sets
abbrev pub StandsAtAll : DurableStore → State → Type 0
StandsAtAll store state = (sets : Sets) × Stands store state sets

-- the same of a journal's store, which has received these entries
abbrev pub StandsWith : RecordStore → State → List Entry → Type 0
StandsWith store state es = (sets : Sets) × JournalStands store state sets × AreAmong es sets.received

-- a read shows under the name of a segment a file of other octets than those of its digest, unless these are 2 ^ 62
pub record ShowsOtherSegment (state : State) (name : List ℕ) : Type 0 where
  pub day : List ℕ
  pub text : List ℕ
  pub other : ShowsOther state day text name

-- what has to be so where a segment is not kept: no file is missing if what is asked holds, none is ever in the way,
-- each day has a name, and a file is told as another, if what is asked holds, only if it is
abbrev pub IsKeepingCause : Type 0 → Type 0 → Type 0 → State → KeepFault → Type 0
IsKeepingCause tells failed asked new (Disk fault) = IsFileCause failed (tells → ¬ asked) (¬ tells) fault
IsKeepingCause tells failed asked new Day = ⊥
IsKeepingCause tells failed asked new (Differs name) = tells → asked → ShowsOtherSegment new name

-- of the turn: there may be no greater number, and no file is missing or in the way if the store stands
abbrev pub turning_causes : Type 0 → Type 0 → Type 0 → RecordStore → Causes
turning_causes tells failed stands store = record {
  broken = IsBroken store;
  failed = failed;
  full = failed ⊎ (number_of store + 1 ≡ 2 ^ 64);
  other = tells → ¬ stands;
  long = ⊥;
}

-- where a checkpoint is not made
abbrev pub IsCheckpointCause : Type 0 → Type 0 → Type 0 → RecordStore → State → CheckpointFault → Type 0
IsCheckpointCause tells failed stands store new (Store fault) = IsCause (turning_causes tells failed stands store) fault
IsCheckpointCause tells failed stands store new (Segment fault) = IsKeepingCause tells failed stands new fault
