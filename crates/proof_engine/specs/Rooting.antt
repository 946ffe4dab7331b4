-- The tree of an archive under way.
use Rattle.std.specs.Prelude.{List, []}
use Rattle.octet_devices.specs.Device.{InputState}
use Rattle.archive_text.specs.Entries.{Entry}
use Rattle.archive_streams.specs.Entries.{IsOpen, IsWhole, Reads}
use Rattle.archive_sets.specs.Selected.{IsReadAt}
use Rattle.archive_sets.specs.declared.fault.SelectFault.{SelectFault}
use Rattle.archive_sets.specs.declared.fault.SelectFault.TheVariants.{Write, Memory}
use Rattle.archive_tree.specs.Archives.{IsRootOf, texts_of}
use Rattle.archive_tree.specs.Trees.{HasTaken}
use Rattle.archive_tree.specs.declared.head.TreeHead.{TreeHead}
use Rattle.proof_engine.specs.declared.rooting.Rooting.{Rooting}

-- nothing was read
pub record IsFresh (s : Rooting) : Type 0 where
  pub unclosed : IsOpen s.entries
  pub none_read : (d : InputState) → Reads s.entries d d []
  pub none_taken : HasTaken s.tree []

-- the entries that were read are those in the tree
pub record Taking (s : Rooting) (d e : InputState) : Type 0 where
  pub xs : List Entry
  pub reads : Reads s.entries d e xs
  pub taken : HasTaken s.tree (texts_of xs)

-- the archive was read to its end
pub record ReadWhole (s : Rooting) (d e : InputState) : Type 0 where
  pub xs : List Entry
  pub whole : IsWhole d e xs
  pub taken : HasTaken s.tree (texts_of xs)

-- a fault of the input, or of the archive on it
abbrev pub IsOfInput : SelectFault → Type 0
IsOfInput (Write sent) = ⊥
IsOfInput Memory = ⊥
IsOfInput fault = Unit {0}

-- such a fault halts it behind these entries
pub record Halted (fault : SelectFault) (d e : InputState) : Type 0 where
  pub xs : List Entry
  pub read : IsReadAt fault d e xs
  pub cause : IsOfInput fault

-- the archive was read to its end, and this is the head of its tree
pub record HasRoot (head : TreeHead) (d e : InputState) : Type 0 where
  pub xs : List Entry
  pub whole : IsWhole d e xs
  pub root : IsRootOf head xs

-- a fault stopped it: lack of memory before anything was read, or one of the input behind these entries
abbrev pub IsUnrooted : SelectFault → InputState → InputState → Type 0
IsUnrooted (Write sent) d e = ⊥
IsUnrooted Memory d e = Unit {0}
IsUnrooted fault d e = Halted fault d e
