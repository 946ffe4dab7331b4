-- A selection under way.
use Rattle.std.specs.Prelude.{◌≡◌, ℕ, ◌^◌, ◌<◌, ◌≤◌, List, [], ◌∷◌, ◌++◌, Option, length}
use Rattle.octet_devices.specs.Device.{InputState}
use Rattle.octet_devices.specs.Held.{Carries, Held, StopsWithin}
use Rattle.archive_text.specs.Entries.{Entry}
use Rattle.archive_text.specs.Text.{text_of}
use Rattle.archive_streams.specs.Entries.{current, Halts, IsOpen, IsWhole, Reads}
use Rattle.archive_streams.specs.declared.entries.ArchiveEntries.{ArchiveEntries}
use Rattle.archive_streams.specs.declared.fault.InputFault.TheVariants.{Device, Endless as input_Endless}
use Rattle.archive_streams.specs.declared.fault.SideFault.TheVariants.{Archive as side_Archive, Input}
use Rattle.archive_sets.specs.Selected.{IsReadAt}
use Rattle.archive_sets.specs.Selections.{IsSelection}
use Rattle.archive_sets.specs.declared.fault.SelectFault.{SelectFault}
use Rattle.archive_sets.specs.declared.fault.SelectFault.TheVariants.{Archive, Read, Endless, Write, Memory}
use Rattle.archive_sets.specs.declared.selection.Selection.{Selection}

-- nothing was read, and nothing is held back
pub record IsFresh (s : Selection) : Type 0 where
  pub unclosed : IsOpen s.entries
  pub none_read : (d : InputState) → Reads s.entries d d []
  pub none_held : s.held ≡ record { octets = []; sent = 0 }
  pub count : s.count ≡ 0

-- what is held back is as it was
pub record KeepsOutput (s t : Selection) : Type 0 where
  pub held : t.held ≡ s.held
  pub count : t.count ≡ s.count

-- these are selected, and of their text a part is held back
pub record Selects (meets : Entry → Type 0) (s : Selection) (xs ys : List Entry)
    (start now : Option (List ℕ)) : Type 0 where
  pub selection : IsSelection meets xs ys
  pub short : length (text_of ys) ≤ length (text_of xs)
  pub carries : Carries start now s.held (text_of ys)
  pub count : s.count ≡ length ys

-- of the entries that were read, those that meet the condition are selected
pub record Selecting (meets : Entry → Type 0) (s : Selection) (d e : InputState)
    (start now : Option (List ℕ)) : Type 0 where
  pub xs : List Entry
  pub ys : List Entry
  pub reads : Reads s.entries d e xs
  pub selects : Selects meets s xs ys start now

-- one entry more was read, which is to be looked at
pub record Looking (meets : Entry → Type 0) (s : Selection) (d e : InputState)
    (start now : Option (List ℕ)) : Type 0 where
  pub xs : List Entry
  pub ys : List Entry
  pub reads : Reads s.entries d e (xs ++ current s.entries ∷ [])
  pub selects : Selects meets s xs ys start now

-- the archive was read to its end
pub record Copied (meets : Entry → Type 0) (s : Selection) (d e : InputState)
    (start now : Option (List ℕ)) : Type 0 where
  pub xs : List Entry
  pub ys : List Entry
  pub whole : IsWhole d e xs
  pub selects : Selects meets s xs ys start now

-- of a text the writer took so many octets at its fault; at each other fault the rest is held back
abbrev pub IsUnderWay : SelectFault → Held → Option (List ℕ) → Option (List ℕ) → List ℕ → Type 0
IsUnderWay (Write sent) held start now text = StopsWithin start now text sent
IsUnderWay Memory held start now text = ⊥
IsUnderWay fault held start now text = Carries start now held text

-- a fault halts it behind these entries
pub record Halted (meets : Entry → Type 0) (fault : SelectFault) (held : Held) (d e : InputState)
    (start now : Option (List ℕ)) : Type 0 where
  pub xs : List Entry
  pub ys : List Entry
  pub read : IsReadAt fault d e xs
  pub selection : IsSelection meets xs ys
  pub short : length (text_of ys) < 2 ^ 64
  pub under_way : IsUnderWay fault held start now (text_of ys)

-- ---- the steps

-- the fault of the input that no entry comes next
abbrev pub IsHalt : SelectFault → ArchiveEntries → ArchiveEntries → InputState → InputState → Type 0
IsHalt (Archive fault) s t e f = Halts (side_Archive fault) s t e f
IsHalt Read s t e f = Halts (Input Device) s t e f
IsHalt Endless s t e f = Halts (Input input_Endless) s t e f
IsHalt (Write sent) s t e f = ⊥
IsHalt Memory s t e f = ⊥

-- the entry that was read last is selected where it meets the condition
abbrev pub Keeps : (Entry → Type 0) → Selection → Selection → Option (List ℕ) → Option (List ℕ) → Type 0
Keeps meets s t a b =
    (d e : InputState) (start : Option (List ℕ)) → Looking meets s d e start a → Selecting meets t d e start b

-- or the writer fails
abbrev pub KeepFails : (Entry → Type 0) → SelectFault → Selection → Selection → Option (List ℕ) → Option (List ℕ)
    → Type 0
KeepFails meets fault s t a b =
    (d e : InputState) (start : Option (List ℕ)) → Looking meets s d e start a → Halted meets fault t.held d e start b
