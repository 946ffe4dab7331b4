-- What a backup does.
use Rattle.std.specs.Prelude.{◌≡◌, ◌≢◌, ◌⊎◌, ℕ, Bool, List, [], ◌∷◌, ◌++◌, None, Some, IsSome, IsSomeAnd, Contains, false, true}
use Rattle.std.specs.Prelude.{length, map}
use Rattle.std.specs.List.{AllByRecursion}
use Rattle.disk.specs.Memory.{no_entry}
use Rattle.disk.specs.States.{Files, State}
use Rattle.journal.specs.Journals.{KeepsOthers}
use Rattle.archive_text.specs.Entries.{Entry}
use Rattle.record_store.specs.Holdings.{Held, IsWholeJournal}
use Rattle.record_store.specs.Names.{IsJournal, IsSegment}
use Rattle.record_store.specs.Segments.{segment_name}
use Rattle.store_reading.specs.Damages.{IsDamagedJournal, position}
use Rattle.store_reading.specs.Days.{IsPeriodText}
use Rattle.store_reading.specs.Journals.{IsJournalFile}
use Rattle.store_reading.specs.declared.journal_file.JournalFile.{JournalFile}
use Rattle.store_reading.specs.declared.fault.FileFault.{FileFault}
use Rattle.store_reading.specs.declared.fault.FileFault.TheVariants.{Digest}
use Rattle.store_upkeep.specs.Causes.{IsCounted}
use Rattle.store_upkeep.specs.Compaction.{shown}
use Rattle.store_upkeep.specs.Damages.{AddsTo, names_of}
use Rattle.store_upkeep.specs.declared.damage.DamagedFile.{DamagedFile}
use Rattle.store_backup.specs.Copies.{IsBacking, IsNoneOrSettledCopy, backup_draft}
use Rattle.store_backup.specs.Drafts.{ShowsStill}
use Rattle.store_backup.specs.declared.files.Kind.{Kind}
use Rattle.store_backup.specs.declared.files.Kind.TheVariants.{Journals, Segments}
use Rattle.store_backup.specs.declared.outcome.Backup.{Backup}
use Rattle.store_backup.specs.declared.outcome.CopiedFile.{CopiedFile}
use Rattle.store_backup.specs.declared.outcome.Outcome.{Outcome}
use Rattle.store_backup.specs.declared.outcome.Outcome.TheVariants.{Copied, Damaged, Gone}

-- ---- one file

-- the SHA-256 of a segment is not the one in its name
pub record IsOtherSegment (name file : List ℕ) : Type 0 where
  pub period : List ℕ
  pub text : IsPeriodText period
  pub segment : IsSegment period name
  pub other : name ≢ segment_name period file

-- a journal is damaged so, or a segment has the name of another
abbrev pub IsDamage : List ℕ → List ℕ → FileFault → Type 0
IsDamage name file damage =
    (IsJournal name × IsDamagedJournal file damage) ⊎ ((damage ≡ Digest) × IsOtherSegment name file)

-- the file under a name is damaged so
abbrev pub IsDamageAt : Files → List ℕ → FileFault → Type 0
IsDamageAt files name damage = IsSomeAnd (files name) (λ file. IsDamage name file damage)

-- copies are put into a folder, and nothing is under the name
pub record IsOpenFor (files : Files) (state : State) (draft name : List ℕ) : Type 0 where
  pub backing : IsBacking files state draft
  pub vacant : (state.entries name).now ≡ None

-- the file of a name was copied, and its copy has so many octets
pub record BecomesCopy (new : State) (name : List ℕ) (octets : ℕ) : Type 0 where
  pub sound : new.lost ≡ false
  pub there : IsSomeAnd (shown new name) (λ text. octets ≡ position (length text))

-- nothing was copied
pub record BecomesNothing (old new : State) (draft : List ℕ) : Type 0 where
  pub sound : new.lost ≡ false
  pub others : KeepsOthers old new draft

-- the file of a name was copied, and its copy has so many octets; or it is damaged; or it was gone
abbrev pub Becomes : Files → State → State → List ℕ → List ℕ → Outcome → Type 0
Becomes files old new draft name (Copied octets) = BecomesCopy new name octets
Becomes files old new draft name (Damaged damage) = BecomesNothing old new draft × IsDamageAt files name damage
Becomes files old new draft name Gone = BecomesNothing old new draft

-- the file under a name is a journal that is whole
pub record IsJournalAt (files : Files) (name file : List ℕ) : Type 0 where
  pub journal : IsJournal name
  pub there : files name ≡ Some file
  pub whole : IsWholeJournal file

-- the file under a name is a journal, and was read
pub record IsReadAt (files : Files) (name : List ℕ) (journal : JournalFile) : Type 0 where
  pub journal_is : IsJournal name
  pub read : IsSomeAnd (files name) (IsJournalFile journal)

-- ---- many files

abbrev pub IsOfKind : Kind → List ℕ → Type 0
IsOfKind Journals name = IsJournal name
IsOfKind Segments name = (period : List ℕ) × IsPeriodText period × IsSegment period name

-- a file is under the name, or is told as damaged
abbrev pub IsDone : State → List DamagedFile → List ℕ → Type 0
IsDone state damaged name = IsSome (shown state name) ⊎ Contains (names_of damaged) name

-- each has the damage that is told of it
abbrev pub AreTold : Files → List DamagedFile → Type 0
AreTold files damaged = AllByRecursion (λ (d : DamagedFile). IsDamageAt files d.name d.damage) damaged

abbrev pub copied_names : List CopiedFile → List (List ℕ)
copied_names copied = map (λ (c : CopiedFile). c.name) copied

-- a file is there, and has so many octets
pub record IsCopied (state : State) (draft : List ℕ) (c : CopiedFile) : Type 0 where
  pub apart : c.name ≢ draft
  pub octets : IsSomeAnd (shown state c.name) (λ text. c.octets ≡ position (length text))

-- a list has each file that is there, and of each its length
pub record Lists (state : State) (draft : List ℕ) (copied : List CopiedFile) : Type 0 where
  pub each : AllByRecursion (IsCopied state draft) copied
  pub all : (name : List ℕ) → name ≢ draft → IsSome (shown state name) → Contains (copied_names copied) name

-- files were copied, and noted
pub record BacksUp (files : Files) (old new : State) (draft : List ℕ) (b c : Backup) : Type 0 where
  pub backing : IsBacking files new draft
  pub still : ShowsStill old new draft
  pub lists : Lists old draft b.copied.items → Lists new draft c.copied.items
  pub told : AreTold files b.damaged.items → AreTold files c.damaged.items
  pub more : AddsTo b.damaged.items c.damaged.items

-- ---- all files

-- each file that counts is there, or is told as damaged
abbrev pub AllAreDone : Files → State → List DamagedFile → Type 0
AllAreDone files state damaged = (name : List ℕ) → IsCounted name → IsSome (files name) → IsDone state damaged name

-- A folder is a backup of these files. Each that counts was copied, or is told as damaged; what is there, but for a
-- draft, is a copy, and on the disk.
pub record IsBackup (files : Files) (state : State) (backup : Backup) : Type 0 where
  pub all : AllAreDone files state backup.damaged.items
  pub only : (name : List ℕ) → name ≢ backup_draft → IsNoneOrSettledCopy files name (state.entries name)
  pub sound : state.lost ≡ false
  pub told : AreTold files backup.damaged.items
  pub lists : Lists state backup_draft backup.copied.items

-- it holds no other records
abbrev pub HoldsNoOther : Files → State → Type 0
HoldsNoOther files state = (e : Entry) → Held (shown state) e → Held files e

-- and it holds all of them
abbrev pub HoldsAll : Files → State → Type 0
HoldsAll files state = (e : Entry) → Held files e → Held (shown state) e

-- nothing was ever under any name
abbrev pub HasNoEntries : State → Type 0
HasNoEntries state = (name : List ℕ) → state.entries name ≡ no_entry

-- a folder without files, on the disk
pub record IsEmptyFolder (state : State) : Type 0 where
  pub none : HasNoEntries state
  pub sound : state.lost ≡ false

-- a read shows no file
abbrev pub ShowsNothing : State → Type 0
ShowsNothing state = (name : List ℕ) → shown state name ≡ None

-- a read shows some file
abbrev pub ShowsSome : State → Type 0
ShowsSome state = (name : List ℕ) × IsSome (shown state name)

-- all was copied, but that the names of the copies may not be on the disk yet
pub record IsWritten (files : Files) (state : State) (draft : List ℕ) (backup : Backup) : Type 0 where
  pub backing : IsBacking files state draft
  pub all : AllAreDone files state backup.damaged.items
  pub told : AreTold files backup.damaged.items
  pub lists : Lists state draft backup.copied.items

-- a file was noted, as one that was copied
pub record NotesCopy (name : List ℕ) (octets : ℕ) (old new : Backup) : Type 0 where
  pub file : CopiedFile
  pub name_is : file.name ≡ name
  pub octets_are : file.octets ≡ octets
  pub copied : new.copied.items ≡ old.copied.items ++ file ∷ []
  pub damaged : new.damaged.items ≡ old.damaged.items

-- or as one that is damaged
pub record NotesDamage (name : List ℕ) (damage : FileFault) (old new : Backup) : Type 0 where
  pub file : DamagedFile
  pub name_is : file.name ≡ name
  pub damage_is : file.damage ≡ damage
  pub copied : new.copied.items ≡ old.copied.items
  pub damaged : new.damaged.items ≡ old.damaged.items ++ file ∷ []

-- one that was gone is not noted
abbrev pub Notes : List ℕ → Outcome → Backup → Backup → Bool → Type 0
Notes name (Copied octets) old new there = NotesCopy name octets old new × (there ≡ true)
Notes name (Damaged damage) old new there = NotesDamage name damage old new × (there ≡ true)
Notes name Gone old new there = (new ≡ old) × (there ≡ false)
