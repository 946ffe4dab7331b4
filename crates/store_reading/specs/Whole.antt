-- Files that are whole.
use Rattle.std.specs.Prelude.{◌≡◌, ℕ, List, Option, Contains, IfSome, codes}
use Rattle.disk.specs.States.{Files}
use Rattle.archive_text.specs.Entries.{Entry}
use Rattle.archive_sets.specs.declared.range.InRange.{InRange}
use Rattle.archive_join.specs.Ranges.{IsOfRange}
use Rattle.record_store.specs.Holdings.{IsWholeJournal}
use Rattle.record_store.specs.Names.{IsJournal, IsSegment}
use Rattle.record_store.specs.Segments.{IsSegmentOf, segment_name}
use Rattle.store_reading.specs.Days.{IsAfter, IsOf}

-- the file under a name, if there is one, is whole where the name is that of a journal
abbrev pub IsWholeJournalAt : Files → List ℕ → Type 0
IsWholeJournalAt files name = IsJournal name → IfSome (files name) IsWholeJournal

-- so it is under each name of the folder
abbrev pub JournalsAreWhole : Files → Type 0
JournalsAreWhole files = (name : List ℕ) → IsWholeJournalAt files name

-- a segment is the archive of entries of its period, and its name has the SHA-256 of its octets
pub record IsWholeSegment (period name file : List ℕ) : Type 0 where
  pub entries : List Entry
  pub archive : IsSegmentOf period file entries
  pub named : name ≡ segment_name period file

-- so is the file under a name, if there is one, where the name is that of a segment of the period
abbrev pub IsWholeSegmentAt : Files → List ℕ → List ℕ → Type 0
IsWholeSegmentAt files period name = IsSegment period name → IfSome (files name) (IsWholeSegment period name)

-- it is whole where it is read into memory, as a journal or as a mixed segment
pub record IsWholeInMemory (files : Files) (name : List ℕ) : Type 0 where
  pub journal : IsWholeJournalAt files name
  pub mixed : IsWholeSegmentAt files (codes "mixed") name

-- so it is under each of these names
abbrev pub NamedMemoryIsWhole : Files → List (List ℕ) → Type 0
NamedMemoryIsWhole files names = (name : List ℕ) → Contains names name → IsWholeInMemory files name

-- so it is under each of these names
abbrev pub NamedSegmentsAreWhole : Files → List (List ℕ) → List ℕ → Type 0
NamedSegmentsAreWhole files names day = (name : List ℕ) → Contains names name → IsWholeSegmentAt files day name

-- so it is under each name of the folder
abbrev pub SegmentsAreWhole : Files → List ℕ → Type 0
SegmentsAreWhole files day = (name : List ℕ) → IsWholeSegmentAt files day name

-- an entry of the day may be in the range
abbrev pub MeetsRange : InRange → List ℕ → Type 0
MeetsRange range day = (e : Entry) × IsOf day e × IsOfRange range e

-- the segments of each day of the range are whole
abbrev pub DaysAreWhole : Files → InRange → Type 0
DaysAreWhole files range = (day : List ℕ) → MeetsRange range day → SegmentsAreWhole files day

-- those of each up to the last one
abbrev pub EarlierAreWhole : Files → InRange → Option (List ℕ) → Type 0
EarlierAreWhole files range last =
    (day : List ℕ) → ¬ (IsAfter last day) → MeetsRange range day → SegmentsAreWhole files day

-- what is read of a range is whole: each journal, each mixed segment, and the segments of each day of the range
pub record IsWholeIn (files : Files) (range : InRange) : Type 0 where
  pub journals : JournalsAreWhole files
  pub mixed : SegmentsAreWhole files (codes "mixed")
  pub segments : DaysAreWhole files range
