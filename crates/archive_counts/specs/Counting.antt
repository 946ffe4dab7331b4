-- A count under way.
use Rattle.std.specs.Prelude.{List, [], ◌∷◌, ◌++◌}
use Rattle.octet_devices.specs.Device.{InputState}
use Rattle.archive_text.specs.Entries.{Entry}
use Rattle.archive_streams.specs.Entries.{current, IsOpen, IsWhole, Reads}
use Rattle.archive_sets.specs.Selected.{IsReadAt}
use Rattle.archive_sets.specs.declared.fault.SelectFault.{SelectFault}
use Rattle.archive_sets.specs.declared.fault.SelectFault.TheVariants.{Write}
use Rattle.archive_counts.specs.Tables.{IsTableOf}
use Rattle.archive_counts.specs.declared.counting.Counting.{Counting}
use Rattle.archive_counts.specs.declared.key.CountKey.{CountKey}

-- nothing was read
pub record IsFresh (keys : List CountKey) (s : Counting) : Type 0 where
  pub unclosed : IsOpen s.entries
  pub none_read : (d : InputState) → Reads s.entries d d []
  pub none_counted : IsTableOf keys s.table []

-- the entries that were read are those in the table
pub record Tabling (keys : List CountKey) (s : Counting) (d e : InputState) : Type 0 where
  pub xs : List Entry
  pub reads : Reads s.entries d e xs
  pub table : IsTableOf keys s.table xs

-- one entry more was read
pub record Looking (keys : List CountKey) (s : Counting) (d e : InputState) : Type 0 where
  pub xs : List Entry
  pub reads : Reads s.entries d e (xs ++ current s.entries ∷ [])
  pub table : IsTableOf keys s.table xs

-- the archive was read to its end
pub record ReadWhole (keys : List CountKey) (s : Counting) (d e : InputState) : Type 0 where
  pub xs : List Entry
  pub whole : IsWhole d e xs
  pub table : IsTableOf keys s.table xs

-- any fault but the writer's
abbrev pub IsBeforeWriting : SelectFault → Type 0
IsBeforeWriting (Write sent) = ⊥
IsBeforeWriting fault = Unit {0}

-- such a fault halts it behind these entries
pub record Halted (fault : SelectFault) (d e : InputState) : Type 0 where
  pub xs : List Entry
  pub read : IsReadAt fault d e xs
  pub cause : IsBeforeWriting fault
