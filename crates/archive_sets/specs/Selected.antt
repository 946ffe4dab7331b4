-- What a call that selects from an archive did.
use Rattle.std.specs.Prelude.{◌≡◌, ℕ, ◌<◌, List, Option, length, take}
use Rattle.std.specs.Io.KnownBytes.{Appends}
use Rattle.octet_devices.specs.Device.{InputState}
use Rattle.archive_text.specs.Entries.{Entry}
use Rattle.archive_text.specs.Text.{text_of}
use Rattle.archive_streams.specs.Entries.{IsBegun, IsCutShort, IsWhole}
use Rattle.archive_streams.specs.declared.fault.InputFault.TheVariants.{Device, Endless as input_Endless}
use Rattle.archive_streams.specs.declared.fault.SideFault.TheVariants.{Archive as side_Archive, Input}
use Rattle.archive_sets.specs.Selections.{IsSelection}
use Rattle.archive_sets.specs.declared.fault.SelectFault.{SelectFault}
use Rattle.archive_sets.specs.declared.fault.SelectFault.TheVariants.{Archive, Read, Endless, Write, Memory}

-- an archive was read to its end, and the text of what is selected of it was written, of so many entries
pub record Selected (meets : Entry → Type 0) (d e : InputState) (taken_old taken_new : Option (List ℕ))
    (n : ℕ) : Type 0 where
  pub xs : List Entry
  pub ys : List Entry
  pub whole : IsWhole d e xs
  pub selection : IsSelection meets xs ys
  pub written : Appends taken_old taken_new (text_of ys)
  pub count : n ≡ length ys

-- what was read at a fault: where it is not the writer's, the entries are the longest prefix of what was given that is
-- an archive
abbrev pub IsReadAt : SelectFault → InputState → InputState → List Entry → Type 0
IsReadAt (Archive fault) d e xs = IsCutShort (side_Archive fault) d e xs
IsReadAt Read d e xs = IsCutShort (Input Device) d e xs
IsReadAt Endless d e xs = IsCutShort (Input input_Endless) d e xs
IsReadAt (Write sent) d e xs = IsBegun d e xs
IsReadAt Memory d e xs = Unit {0}

-- what was written of a text at a fault: all of it; where the writer failed, so many octets, and not all
abbrev pub IsWrittenAt : SelectFault → Option (List ℕ) → Option (List ℕ) → List ℕ → Type 0
IsWrittenAt (Write sent) old new text = (sent < length text) × Appends old new (take sent text)
IsWrittenAt Memory old new text = Unit {0}
IsWrittenAt fault old new text = Appends old new text

-- a fault stopped it behind these entries, and what is selected of them was written
pub record Stopped (meets : Entry → Type 0) (fault : SelectFault) (d e : InputState)
    (taken_old taken_new : Option (List ℕ)) : Type 0 where
  pub xs : List Entry
  pub ys : List Entry
  pub read : IsReadAt fault d e xs
  pub selection : IsSelection meets xs ys
  pub written : IsWrittenAt fault taken_old taken_new (text_of ys)
