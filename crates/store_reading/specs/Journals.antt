-- What is read into memory: what journals have, and mixed segments.
use Rattle.std.specs.Prelude.{◌≡◌, ◌↔◌, ◌⊎◌, ℕ, List, IfSome, IsSomeAnd, codes}
use Rattle.disk.specs.States.{Files}
use Rattle.octet_devices.specs.Device.{InputState}
use Rattle.archive_text.specs.Entries.{Entry, Has}
use Rattle.archive_text.specs.Text.{BeginsWithEntry, IsArchive, text_of}
use Rattle.archive_text.specs.declared.limits.TheConstants.{ENTRY_MAX}
use Rattle.archive_sets.specs.declared.range.InRange.{InRange}
use Rattle.archive_join.specs.Ranges.{IsOfRange}
use Rattle.record_store.specs.Holdings.{JournalHas, SegmentHas}
use Rattle.record_store.specs.Names.{IsJournal}
use Rattle.store_reading.specs.Damages.{HidesNothing, IsHiddenAt}
use Rattle.store_reading.specs.Names.{SomeName}
use Rattle.store_reading.specs.Segments.{HasAsSegment}
use Rattle.store_reading.specs.declared.journal_file.JournalFile.{JournalFile}
use Rattle.store_reading.specs.declared.journal_file.JournalFile.TheVariants.{Hidden, Octets}

-- the file under a name has the entry, as a journal
abbrev pub HasAsJournal : Files → List ℕ → Entry → Type 0
HasAsJournal files name e = IsJournal name × IsSomeAnd (files name) (λ file. JournalHas file e)

-- the file under a name has it as a mixed segment, and it is of the range
abbrev pub HasAsMixed : Files → InRange → List ℕ → Entry → Type 0
HasAsMixed files range name e = HasAsSegment files (codes "mixed") name e × IsOfRange range e

-- as one or the other
abbrev pub HasInMemory : Files → InRange → List ℕ → Entry → Type 0
HasInMemory files range name e = HasAsJournal files name e ⊎ HasAsMixed files range name e

-- some file has it so
abbrev pub MemoryHas : Files → InRange → Entry → Type 0
MemoryHas files range e = (name : List ℕ) × HasInMemory files range name e

-- one of the names has it so
abbrev pub NamedMemoryHas : Files → InRange → List (List ℕ) → Entry → Type 0
NamedMemoryHas files range names e = SomeName names (λ (name : List ℕ). HasInMemory files range name e)

-- entries are added
abbrev pub Adds : List Entry → List Entry → (Entry → Type 0) → Type 0
Adds old new given = (e : Entry) → Has new e ↔ (Has old e ⊎ given e)

-- the entry is added that a text begins with, and behind which it goes on so
abbrev pub AddsFirst : List ℕ → List ℕ → List Entry → List Entry → Type 0
AddsFirst text behind old new = (e : Entry) × BeginsWithEntry ENTRY_MAX text e behind × Adds old new (λ x. e ≡ x)

-- the archive of the entries that journals have, and those of the range that mixed segments have
pub record IsOfMemory (files : Files) (range : InRange) (text : List ℕ) : Type 0 where
  pub entries : List Entry
  pub archive : IsArchive ENTRY_MAX entries
  pub text_is : text ≡ text_of entries
  pub have : (e : Entry) → Has entries e ↔ MemoryHas files range e

-- an input gave all that it had
abbrev pub GivesAll : InputState → InputState → List ℕ → Type 0
GivesAll d e octets = IfSome d.left (λ (input : List ℕ). octets ≡ input)

-- what was read of a journal: its octets, which hide no batches, or that it hides some, and where
abbrev pub IsJournalFile : JournalFile → List ℕ → Type 0
IsJournalFile (Octets octets) file = (octets.items ≡ file) × HidesNothing file
IsJournalFile (Hidden at) file = IsHiddenAt file at

-- the entries of the range that a mixed segment has are added, which an input has left
abbrev pub AddsMixed : InRange → InputState → List Entry → List Entry → Type 0
AddsMixed range d old new =
    IfSome d.left (λ (input : List ℕ). Adds old new (λ e. SegmentHas (codes "mixed") input e × IsOfRange range e))
