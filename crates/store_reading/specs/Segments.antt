-- What segments have.
use Rattle.std.specs.Prelude.{◌≡◌, ◌↔◌, ℕ, List, [], ◌∷◌, ◌++◌, Some, IsSomeAnd, codes}
use Rattle.std.specs.List.{AllByRecursion}
use Rattle.disk.specs.States.{Files}
use Rattle.hex.specs.Hex.{encode_lower}
use Rattle.sha2.specs.Sha256.{sha256}
use Rattle.octet_devices.specs.Device.{InputState}
use Rattle.archive_text.specs.Entries.{Entry}
use Rattle.archive_text.specs.Text.{IsArchive, text_of}
use Rattle.archive_text.specs.declared.limits.TheConstants.{ENTRY_MAX}
use Rattle.archive_streams.specs.Entries.{IsWhole, Reads}
use Rattle.archive_streams.specs.declared.entries.ArchiveEntries.{ArchiveEntries}
use Rattle.archive_join.specs.Holders.{IsHeld}
use Rattle.record_store.specs.Holdings.{IsOfPeriod, SegmentHas}
use Rattle.record_store.specs.Names.{IsSegment}
use Rattle.record_store.specs.Segments.{segment_name}
use Rattle.store_reading.specs.Days.{IsOf}
use Rattle.store_reading.specs.Folders.{IsUnused}
use Rattle.store_reading.specs.Names.{SomeName}

-- an input was read to its end, and is an archive of entries of the period
pub record IsWholeOf (period : List ℕ) (d e : InputState) : Type 0 where
  pub entries : List Entry
  pub whole : IsWhole d e entries
  pub days : AllByRecursion (IsOfPeriod period) entries

-- the entries that were read of an input are of the period
pub record ReadsOf (period : List ℕ) (s : ArchiveEntries) (d e : InputState) : Type 0 where
  pub entries : List Entry
  pub reads : Reads s d e entries
  pub days : AllByRecursion (IsOfPeriod period) entries

-- a segment of the period was read to its end, and this is the digest of its octets
pub record IsHashed (period : List ℕ) (d e : InputState) (hex : List ℕ) : Type 0 where
  pub segment : IsWholeOf period d e
  pub digest : hex ≡ encode_lower (sha256 (text_of segment.entries))

-- PERIOD.HEX.archive, with this digest
abbrev pub IsNamedBy : List ℕ → List ℕ → List ℕ → Type 0
IsNamedBy period name hex = name ≡ period ++ 46 ∷ hex ++ codes ".archive"

-- an input that was not called yet, of an archive of these entries
pub record IsArchiveInput (d : InputState) (xs : List Entry) : Type 0 where
  pub unused : IsUnused d
  pub left : d.left ≡ Some (text_of xs)
  pub archive : IsArchive ENTRY_MAX xs

-- the same of each input
abbrev pub AreArchives : List InputState → List (List Entry) → Type 0
AreArchives [] [] = Unit {0}
AreArchives (d ∷ ds) (xs ∷ xss) = IsArchiveInput d xs × AreArchives ds xss
AreArchives ds xss = ⊥

-- the input of a segment of the period, which the folder has under the name, that of its digest
pub record IsSegmentInput (files : Files) (name period : List ℕ) (d : InputState) : Type 0 where
  pub entries : List Entry
  pub input : IsArchiveInput d entries
  pub file : files name ≡ Some (text_of entries)
  pub days : AllByRecursion (IsOfPeriod period) entries
  pub named : name ≡ segment_name period (text_of entries)

-- the file under a name has the entry, as a segment of the period
abbrev pub HasAsSegment : Files → List ℕ → List ℕ → Entry → Type 0
HasAsSegment files period name e = IsSegment period name × IsSomeAnd (files name) (λ file. SegmentHas period file e)

-- a segment of the day has the entry, which is of the day
abbrev pub DayHas : Files → List ℕ → Entry → Type 0
DayHas files day e = IsOf day e × ((name : List ℕ) × HasAsSegment files day name e)

-- one of the names has it
abbrev pub NamesHave : Files → List (List ℕ) → List ℕ → Entry → Type 0
NamesHave files names period e = SomeName names (λ (name : List ℕ). HasAsSegment files period name e)

-- the inputs of the period's segments that are among these names
pub record AreSegmentsOf (files : Files) (names : List (List ℕ)) (period : List ℕ) (ds : List InputState) : Type 0 where
  pub entries : List (List Entry)
  pub inputs : AreArchives ds entries
  pub have : (e : Entry) → IsHeld entries e ↔ NamesHave files names period e

-- the inputs of the segments that are among some names become those of one name more
abbrev pub AddsSegment : Files → List ℕ → List ℕ → List InputState → List InputState → Type 0
AddsSegment files name day old new =
    (names : List (List ℕ)) → AreSegmentsOf files names day old → AreSegmentsOf files (names ++ name ∷ []) day new
