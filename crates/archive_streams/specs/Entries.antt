-- An archive that is read entry by entry, as its user sees it.
use Rattle.std.specs.Prelude.{◌≡◌, ℕ, ◌+◌, ◌-◌, ◌*◌, ◌^◌, ◌<◌, ◌≤◌, List, [], ◌∷◌, ◌++◌, length}
use Rattle.std.specs.Io.KnownBytes.{Consumes, IsAtEnd}
use Rattle.octet_devices.specs.Device.{InputState}
use Rattle.octet_devices.specs.declared.loops.TheConstants.{READER_CALLS}
use Rattle.archive_text.specs.Entries.{Entry}
use Rattle.archive_text.specs.Faults.{IsArchiveFault, IsLongestArchive}
use Rattle.archive_text.specs.Positions.{position_of}
use Rattle.archive_text.specs.Text.{IsArchive, text_of}
use Rattle.archive_text.specs.declared.limits.TheConstants.{ENTRY_MAX}
use Rattle.archive_streams.specs.EntryTexts.{entry_in}
use Rattle.archive_streams.specs.Pieces.{HasFewLargeCalls}
use Rattle.archive_streams.specs.Sides.{Due}
use Rattle.archive_streams.specs.declared.entries.ArchiveEntries.{ArchiveEntries}
use Rattle.archive_streams.specs.declared.fault.InputFault.TheVariants.{Device, Endless}
use Rattle.archive_streams.specs.declared.fault.SideFault.{SideFault}
use Rattle.archive_streams.specs.declared.fault.SideFault.TheVariants.{Archive, Input}
use Rattle.archive_streams.specs.declared.pieces.TheConstants.{ENTRIES_READ_MAX}
use Rattle.archive_streams.specs.declared.progress.Progress.{Progress}
use Rattle.archive_streams.specs.declared.progress.Progress.TheVariants.{Open, Ended, Stopped}
use Rattle.archive_streams.specs.declared.side.ArchiveReader.{ArchiveReader}

-- the entry that was read last
abbrev pub current : ArchiveEntries → Entry
current s = entry_in s.reader.entry

-- further entries may be read
abbrev pub IsOpen : ArchiveEntries → Type 0
IsOpen s = s.progress ≡ Open

-- the end was found, or a fault
abbrev pub IsClosed : ArchiveEntries → Type 0
IsClosed s = ¬ (s.progress ≡ Open)

-- how many octets the calls that a reader may get can still give, at most, behind the last entry that was read
abbrev pub still_to_come : ArchiveEntries → ℕ
still_to_come s = ENTRIES_READ_MAX * READER_CALLS - s.reader.position

-- a reader that stood at `d` gave its end, and all that it gave is the archive of these entries
pub record IsWhole (d e : InputState) (es : List Entry) : Type 0 where
  pub archive : IsArchive ENTRY_MAX es
  pub consumed : Consumes d.left e.left (text_of es)
  pub few : HasFewLargeCalls d e (text_of es)
  pub short : length (text_of es) ≤ ENTRIES_READ_MAX * READER_CALLS
  pub ended : d.calls < 2 ^ 63 → d.ends < e.ends
  pub none_left : IsAtEnd e.left

-- why no entry comes next in what a reader gave: it is no archive, and where a fault is at its end, the end was
-- given; or the reader failed; or it was called as often as it may be, and gave no end
abbrev pub IsCauseOf : SideFault → InputState → InputState → List ℕ → Type 0
IsCauseOf (Archive fault) d e given =
    IsArchiveFault ENTRY_MAX given fault
    × (position_of fault ≡ length given → (d.calls < 2 ^ 63 → d.ends < e.ends) × IsAtEnd e.left)
IsCauseOf (Input Device) d e given = Unit {0}
IsCauseOf (Input Endless) d e given =
    (d.calls < 2 ^ 63 → e.calls ≡ d.calls + READER_CALLS) × (d.calls < 2 ^ 63 → e.ends ≡ d.ends)

-- a reader that stood at `d` gave octets whose longest prefix that is an archive has these entries, and no entry
-- comes next
pub record IsCutShort (fault : SideFault) (d e : InputState) (es : List Entry) : Type 0 where
  pub given : List ℕ
  pub rest : List ℕ
  pub consumed : Consumes d.left e.left given
  pub front : IsLongestArchive ENTRY_MAX given es rest
  pub few : HasFewLargeCalls d e given
  pub short : length given ≤ ENTRIES_READ_MAX * READER_CALLS
  pub cause : IsCauseOf fault d e given

-- these entries were read since the reader stood at `d`
abbrev pub HasRead : Progress → ArchiveReader → InputState → InputState → List Entry → Type 0
HasRead Open r d e es = Due r d e es r.entry
HasRead Ended r d e es = IsWhole d e es
HasRead (Stopped fault) r d e es = IsCutShort fault d e es

abbrev pub Reads : ArchiveEntries → InputState → InputState → List Entry → Type 0
Reads s d e es = HasRead s.progress s.reader d e es

-- one entry more is read
pub record ReadsOne (s t : ArchiveEntries) (e f : InputState) : Type 0 where
  pub open_before : IsOpen s
  pub open_after : IsOpen t
  pub nearer : still_to_come t < still_to_come s
  pub reads : (d : InputState) (es : List Entry) → Reads s d e es → Reads t d f (es ++ current t ∷ [])

-- there is no further one: the archive is whole
pub record Ends (s t : ArchiveEntries) (e f : InputState) : Type 0 where
  pub progress : t.progress ≡ Ended
  pub entry : current t ≡ current s
  pub whole : (d : InputState) (es : List Entry) → Reads s d e es → IsWhole d f es

-- or it stops
pub record Halts (fault : SideFault) (s t : ArchiveEntries) (e f : InputState) : Type 0 where
  pub progress : t.progress ≡ Stopped fault
  pub entry : current t ≡ current s
  pub cut_short : (d : InputState) (es : List Entry) → Reads s d e es → IsCutShort fault d f es

-- what was given up to the last entry that was read: the text of the entries, and what follows it
pub record IsBegun (d e : InputState) (es : List Entry) : Type 0 where
  pub given : List ℕ
  pub rest : List ℕ
  pub consumed : Consumes d.left e.left given
  pub parts : given ≡ text_of es ++ rest
  pub archive : IsArchive ENTRY_MAX es
  pub few : HasFewLargeCalls d e given
  pub short : length given ≤ ENTRIES_READ_MAX * READER_CALLS
