-- One journal after another.
use Rattle.std.specs.Prelude.{◌≡◌, ◌≢◌, ◌⊎◌, ℕ, ◌+◌, ◌^◌, ◌<◌, List, [], ◌++◌, Contains, None, Some, take}
use Rattle.std.specs.List.Sorted.{IsStrictlyIncreasing}
use Rattle.disk.specs.Memory.{shown_now}
use Rattle.disk.specs.States.{State}
use Rattle.archive_text.specs.Entries.{Entry}
use Rattle.record_store.specs.Causes.{Causes}
use Rattle.record_store.specs.Crashes.{InSegment}
use Rattle.record_store.specs.Holdings.{JournalHas}
use Rattle.record_store.specs.Names.{journal_name}
use Rattle.record_store.specs.Shown.{AreShown, journal_shown}
use Rattle.record_store.specs.Stores.{IsBroken, Sets, Stands}
use Rattle.record_store.specs.declared.store.RecordStore.{RecordStore}

-- those that came since the last checkpoint are committed by other files, and none has come since
abbrev pub turned : Sets → Sets
turned sets = record {
  committed = sets.committed ++ sets.since;
  received = sets.received;
  since = [];
  waiting = [];
}

-- the first of the journals up to a number, as many as are given, are gone, and each other one but the next is as it was
pub record ShedsOldest (most : ℕ) (old new : State) (last : ℕ) : Type 0 where
  pub numbers : List ℕ
  pub are : AreShown old last numbers
  pub gone : (n : ℕ) → Contains (take most numbers) n → journal_shown new n ≡ None
  pub stay : (n : ℕ) → n < 2 ^ 64 → n ≢ last + 1 → ¬ (Contains (take most numbers) n)
      → journal_shown new n ≡ journal_shown old n

-- of the making of a journal that is not there yet
abbrev pub making_causes : Type 0 → Type 0 → State → ℕ → Causes
making_causes tells failed state number = record {
  broken = ⊥;
  failed = failed;
  full = failed;
  other = tells → journal_shown state number ≢ None;
  long = ⊥;
}

-- of the removal of one that is
abbrev pub removing_causes : Type 0 → Type 0 → State → ℕ → Causes
removing_causes tells failed state number = record {
  broken = ⊥;
  failed = failed;
  full = failed;
  other = tells → journal_shown state number ≡ None;
  long = ⊥;
}

-- each of these journals is named once, and shown
pub record AreEachShown (state : State) (numbers : List ℕ) : Type 0 where
  pub ascend : IsStrictlyIncreasing numbers
  pub shown : (n : ℕ) → Contains numbers n → journal_shown state n ≢ None

-- segments hold what each of these journals has that is shown
abbrev pub AreInSegments : State → List ℕ → Type 0
AreInSegments state numbers = (n : ℕ) (octets : List ℕ) → Contains numbers n → journal_shown state n ≡ Some octets
    → (e : Entry) → JournalHas octets e → InSegment state e

-- a name is that of one of these journals, and gone
pub record IsGoneOf (new : State) (numbers : List ℕ) (name : List ℕ) : Type 0 where
  pub number : ℕ
  pub small : number < 2 ^ 64
  pub one : Contains numbers number
  pub name_is : name ≡ journal_name number
  pub none : shown_now (new.entries name) ≡ None

-- each other name is as it was
abbrev pub LosesOnly : State → State → List ℕ → Type 0
LosesOnly old new numbers = (name : List ℕ) → (new.entries name ≡ old.entries name) ⊎ IsGoneOf new numbers name

-- of the removal of several journals
abbrev pub shedding_causes : Type 0 → Type 0 → State → List ℕ → Causes
shedding_causes tells failed state numbers = record {
  broken = ⊥;
  failed = failed;
  full = failed;
  other = tells → ¬ (AreEachShown state numbers);
  long = ⊥;
}

-- of a turn: there may be no greater number
abbrev pub turn_causes : Type 0 → Type 0 → RecordStore → State → Causes
turn_causes tells failed store state = record {
  broken = IsBroken store;
  failed = failed;
  full = failed ⊎ (store.number + 1 ≡ 2 ^ 64);
  other = tells → (sets : Sets) → ¬ (Stands store state sets);
  long = ⊥;
}
