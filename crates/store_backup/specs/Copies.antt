-- Copies of a store's files.
use Rattle.std.specs.Prelude.{◌≡◌, ◌≢◌, ◌⊎◌, ℕ, List, [], ◌∷◌, ◌++◌, None, Option, Some, IsSomeAnd, codes, false}
use Rattle.disk.specs.Files.{settled}
use Rattle.disk.specs.Memory.{no_entry}
use Rattle.disk.specs.States.{Entry, Files, NameMayLeave, State}
use Rattle.journal.specs.Batches.{HasBatches, batches_text}
use Rattle.journal.specs.Journals.{only_file}
use Rattle.record_store.specs.Holdings.{IsWholeJournal}
use Rattle.record_store.specs.Names.{Counts, IsJournal, IsSegment}
use Rattle.record_store.specs.Segments.{segment_name}
use Rattle.store_reading.specs.Days.{IsPeriodText}

-- what a copy is called until all of it is on the disk
abbrev pub backup_draft : List ℕ
backup_draft = codes "backup.archive"

-- the batches of a journal that is whole, and a closed octet behind them: as a server leaves a journal that is at rest
pub record IsJournalCopy (file copy : List ℕ) : Type 0 where
  pub whole : IsWholeJournal file
  pub bodies : List (List ℕ)
  pub batches : HasBatches file bodies
  pub copy_is : copy ≡ batches_text bodies ++ 254 ∷ []

-- the octets of a segment, whose SHA-256 is in its name
pub record IsSegmentCopy (name file copy : List ℕ) : Type 0 where
  pub period : List ℕ
  pub text : IsPeriodText period
  pub segment : IsSegment period name
  pub named : name ≡ segment_name period file
  pub copy_is : copy ≡ file

-- the file under a name is copied so
abbrev pub IsCopy : Files → List ℕ → List ℕ → Type 0
IsCopy files name copy =
    IsSomeAnd (files name) (λ file. (IsJournal name × IsJournalCopy file copy) ⊎ IsSegmentCopy name file copy)

-- a file that was put under a name where nothing was
abbrev pub put_entry : List ℕ → Entry
put_entry octets = record { now = Some (settled octets); past = None ∷ []; moved = false }

-- nothing was ever under the name, or a copy was put there
abbrev pub IsVacantOrCopy : Files → List ℕ → Entry → Type 0
IsVacantOrCopy files name entry =
    (entry ≡ no_entry) ⊎ ((copy : List ℕ) × IsCopy files name copy × (entry ≡ put_entry copy))

-- so it is under each name but that of a draft
abbrev pub HasCopies : Files → State → List ℕ → Type 0
HasCopies files state draft = (name : List ℕ) → name ≢ draft → IsVacantOrCopy files name (state.entries name)

-- copies are put into a folder, under a draft's name at first
pub record IsBacking (files : Files) (state : State) (draft : List ℕ) : Type 0 where
  pub apart : ¬ (Counts draft)
  pub sound : state.lost ≡ false
  pub copies : HasCopies files state draft

-- a crash leaves under each name but that of the draft nothing, or a copy
abbrev pub LeavesCopies : Files → State → Type 0
LeavesCopies files state = (name : List ℕ) → name ≢ backup_draft → (octets : Option (List ℕ))
    → NameMayLeave (state.entries name) octets → (octets ≡ None) ⊎ IsSomeAnd octets (IsCopy files name)

-- nothing is under a name, or a copy that is on the disk
abbrev pub IsNoneOrSettledCopy : Files → List ℕ → Entry → Type 0
IsNoneOrSettledCopy files name entry =
    (entry ≡ no_entry) ⊎ ((copy : List ℕ) × IsCopy files name copy × (entry ≡ only_file (settled copy)))
