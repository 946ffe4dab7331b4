-- Octets of journals that are set aside.
use Rattle.std.specs.Prelude.{◌≡◌, ◌⊎◌, ℕ, List, [], ◌++◌, None, Some, codes}
use Rattle.disk.specs.Memory.{shown_now}
use Rattle.disk.specs.States.{State, kept}
use Rattle.journal.specs.Journals.{IsOnDisk}
use Rattle.record_store.specs.Causes.{Causes}
use Rattle.record_store.specs.Names.{Counts, IsJournal, journal_name}

-- damaged.journal.N, which counts for nothing
abbrev pub aside_name : ℕ → List ℕ
aside_name n = codes "damaged." ++ journal_name n

-- what a read shows under a name, of which nothing is where there is no file
abbrev pub ShowsOrNone : State → List ℕ → List ℕ → Type 0
ShowsOrNone state name octets =
    (shown_now (state.entries name) ≡ Some octets) ⊎ ((shown_now (state.entries name) ≡ None) × (octets ≡ []))

-- octets were written behind what a read showed under a name
pub record WritesBehind (old new : State) (name octets : List ℕ) : Type 0 where
  pub before : List ℕ
  pub was : ShowsOrNone old name before
  pub now : shown_now (new.entries name) ≡ Some (before ++ octets)

-- and all of it is on the disk
pub record IsAside (old new : State) (name octets : List ℕ) : Type 0 where
  pub before : List ℕ
  pub was : ShowsOrNone old name before
  pub now : IsOnDisk new name (before ++ octets)

-- each name that is no journal's is as it was, but that what is there may be on the disk now
abbrev pub KeepsOrSettlesFiles : State → State → Type 0
KeepsOrSettlesFiles old new = (name : List ℕ) → ¬ (IsJournal name)
    → (new.entries name ≡ old.entries name) ⊎ (new.entries name ≡ kept (old.entries name))

-- so is each name that counts
abbrev pub KeepsOrSettlesCounted : State → State → Type 0
KeepsOrSettlesCounted old new = (name : List ℕ) → Counts name
    → (new.entries name ≡ old.entries name) ⊎ (new.entries name ≡ kept (old.entries name))

-- of the writing of such a file: none is missing or in the way
abbrev pub aside_causes : Type 0 → Type 0 → Causes
aside_causes tells failed = record {
  broken = ⊥;
  failed = failed;
  full = failed;
  other = ¬ tells;
  long = ⊥;
}
