-- An archive that is read entry by entry.
use Rattle.std.specs.Prelude.{◌≡◌, ◌≢◌, ℕ, ◌+◌, ◌^◌, ◌<◌, ◌≤◌, ◌⊎◌, List, [], ◌∷◌, ◌++◌, length, vec_len}
use Rattle.std.specs.Io.KnownBytes.{Consumes, IsAtEnd}
use Rattle.octet_devices.specs.declared.loops.TheConstants.{READER_CALLS}
use Rattle.archive_text.specs.Entries.{Entry, Has, IsAscending, IsBelow}
use Rattle.archive_text.specs.Faults.{IsFaultBehind}
use Rattle.archive_text.specs.Text.{IsArchive, text_of}
use Rattle.archive_text.specs.declared.limits.TheConstants.{ENTRY_MAX}
use Rattle.archive_streams.specs.EntryTexts.{entry_in, HoldsEntry, IsAbove}
use Rattle.archive_streams.specs.Faults.{IsCut}
use Rattle.archive_text.specs.Positions.{position_of}
use Rattle.octet_devices.specs.Device.{InputState}
use Rattle.archive_streams.specs.Pieces.{reach, unused}
use Rattle.archive_streams.specs.declared.entry.EntryText.{EntryText}
use Rattle.archive_streams.specs.declared.fault.InputFault.TheVariants.{Device, Endless}
use Rattle.archive_streams.specs.declared.fault.SideFault.{SideFault}
use Rattle.archive_streams.specs.declared.fault.SideFault.TheVariants.{Archive, Input}
use Rattle.archive_streams.specs.declared.pieces.Pieces.{Pieces}
use Rattle.archive_streams.specs.declared.side.ArchiveReader.{ArchiveReader}

-- the position is one of the octets that so many calls can give
abbrev pub IsNear : ArchiveReader → Type 0
IsNear r = r.position + length (unused r.pieces) ≤ reach r.pieces

-- the last entry is the last of the list; there is none where the list has none
pub record EndsWith (es : List Entry) (last : EntryText) : Type 0 where
  pub none : last.text.items ≡ [] → es ≡ []
  pub some : last.text.items ≢ [] → (before : List Entry) × (es ≡ before ++ entry_in last ∷ [])

-- why no entry comes next, behind entries of which the last one is known
abbrev pub IsNextFault : SideFault → EntryText → ℕ → List ℕ → Pieces → Type 0
IsNextFault (Archive fault) last position rest p =
    ((es : List Entry) → IsArchive ENTRY_MAX es → EndsWith es last → length (text_of es) ≡ position
    → IsFaultBehind ENTRY_MAX es rest fault)
    × (0 < length rest) × (position_of fault ≡ position + length rest → 0 < p.ends)
IsNextFault (Input Device) last position rest p = IsCut rest
IsNextFault (Input Endless) last position rest p = IsCut rest × (p.calls ≡ READER_CALLS) × (p.ends ≡ 0)

-- a reader that stood at `d` gave these octets, of which the entries are read
pub record ReadTo (s : ArchiveReader) (d e : InputState) (x : List ℕ) (es : List Entry) : Type 0 where
  pub consumed : Consumes d.left e.left x
  pub parts : x ≡ text_of es ++ unused s.pieces
  pub archive : IsArchive ENTRY_MAX es
  pub position : s.position ≡ length (text_of es)
  pub far : length x ≤ reach s.pieces
  pub calls : d.calls < 2 ^ 63 → e.calls ≡ d.calls + s.pieces.calls
  pub ends : d.calls < 2 ^ 63 → e.ends ≡ d.ends + s.pieces.ends
  pub at_end : 0 < s.pieces.ends → IsAtEnd e.left

-- all entries that were read of a side were joined, the last one last of all
pub record Due (s : ArchiveReader) (d e : InputState) (es : List Entry) (last : EntryText) : Type 0 where
  pub x : List ℕ
  pub read : ReadTo s d e x es
  pub ends : EndsWith es last

-- the next entry of a side is above all that was joined; or it is at its end
abbrev pub IsNextOrEnd : ArchiveReader → List Entry → List Entry → List Entry → Type 0
IsNextOrEnd s es ls ws =
    (HoldsEntry s.entry × (es ≡ ls ++ entry_in s.entry ∷ [])
    × ((w : Entry) → Has ws w → IsBelow w (entry_in s.entry)))
    ⊎ ((s.entry.text.items ≡ []) × (es ≡ ls) × (unused s.pieces ≡ []) × (0 < s.pieces.ends))

-- the entries of a side that were joined are read, and one more where it is not at its end
pub record Ready (s : ArchiveReader) (d e : InputState) (ls ws : List Entry) : Type 0 where
  pub x : List ℕ
  pub es : List Entry
  pub read : ReadTo s d e x es
  pub place : IsNextOrEnd s es ls ws

-- what is known where a side stops
abbrev pub IsStopCause : SideFault → ArchiveReader → List ℕ → List ℕ → List Entry → Type 0
IsStopCause (Archive fault) s x rest es =
    IsFaultBehind ENTRY_MAX es rest fault × (0 < length rest) × (position_of fault ≡ length x → 0 < s.pieces.ends)
IsStopCause (Input Device) s x rest es = IsCut rest
IsStopCause (Input Endless) s x rest es = IsCut rest × (s.pieces.calls ≡ READER_CALLS) × (s.pieces.ends ≡ 0)

-- a side stops behind these entries
pub record IsSideStop (fault : SideFault) (s : ArchiveReader) (d e : InputState) (es : List Entry) : Type 0 where
  pub x : List ℕ
  pub rest : List ℕ
  pub consumed : Consumes d.left e.left x
  pub parts : x ≡ text_of es ++ rest
  pub archive : IsArchive ENTRY_MAX es
  pub cause : IsStopCause fault s x rest es
  pub far : length x ≤ reach s.pieces
  pub calls : d.calls < 2 ^ 63 → e.calls ≡ d.calls + s.pieces.calls
  pub ends : d.calls < 2 ^ 63 → e.ends ≡ d.ends + s.pieces.ends
  pub at_end : 0 < s.pieces.ends → IsAtEnd e.left

-- ---- one call

-- the entry is above the last one
pub record HoldsNext (last t : EntryText) : Type 0 where
  pub holds : HoldsEntry t
  pub above : IsAbove last (entry_in t)

-- the position is behind the entry
pub record IsOn (s t : ArchiveReader) : Type 0 where
  pub near : IsNear t
  pub position : t.position ≡ s.position + vec_len t.entry.text

-- a side whose next entry was due is ready again
abbrev pub ReadiesSide : ArchiveReader → ArchiveReader → EntryText → InputState → InputState → Type 0
ReadiesSide s t last e f =
    (d : InputState) (es ws : List Entry) → Due s d e es last → EndsWith ws last → IsAscending ws → Ready t d f es ws

-- or it stops
abbrev pub StopsSide : SideFault → ArchiveReader → ArchiveReader → EntryText → InputState → InputState → Type 0
StopsSide fault s t last e f =
    (d : InputState) (es : List Entry) → Due s d e es last → IsSideStop fault t d f es
