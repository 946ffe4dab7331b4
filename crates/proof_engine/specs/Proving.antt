-- The proofs of records, as an archive is read.
use Rattle.std.specs.Prelude.{ℕ, List, []}
use Rattle.octet_devices.specs.Device.{InputState}
use Rattle.archive_text.specs.Entries.{Entry}
use Rattle.archive_streams.specs.Entries.{IsOpen, IsWhole, Reads}
use Rattle.archive_sets.specs.Selected.{IsReadAt}
use Rattle.archive_sets.specs.declared.fault.SelectFault.{SelectFault}
use Rattle.archive_sets.specs.declared.fault.SelectFault.TheVariants.{Write}
use Rattle.archive_tree.specs.Archives.{IsRootOf}
use Rattle.archive_tree.specs.declared.head.TreeHead.{TreeHead}
use Rattle.archive_proof.specs.Proving.{IsProving, IsTextOfProofs}
use Rattle.proof_engine.specs.declared.proving.Proving.{Proving}

-- these records are asked for, and nothing was read
pub record IsFresh (rs : List Entry) (s : Proving) : Type 0 where
  pub unclosed : IsOpen s.entries
  pub none_read : (d : InputState) → Reads s.entries d d []
  pub none_taken : IsProving rs s.prover []

-- the entries that were read came to the proofs
pub record Taking (rs : List Entry) (s : Proving) (d e : InputState) : Type 0 where
  pub xs : List Entry
  pub reads : Reads s.entries d e xs
  pub taken : IsProving rs s.prover xs

-- the archive was read to its end
pub record ReadWhole (rs : List Entry) (s : Proving) (d e : InputState) : Type 0 where
  pub xs : List Entry
  pub whole : IsWhole d e xs
  pub taken : IsProving rs s.prover xs

-- no fault of a writer
abbrev pub IsOfReading : SelectFault → Type 0
IsOfReading (Write sent) = ⊥
IsOfReading fault = Unit {0}

-- such a fault halts it behind these entries
pub record Halted (fault : SelectFault) (d e : InputState) : Type 0 where
  pub xs : List Entry
  pub read : IsReadAt fault d e xs
  pub cause : IsOfReading fault

-- an archive was read to its end, and the text is that of proofs, one for each of the records, that it is in the archive
-- or that it is not
pub record HasProofs (rs : List Entry) (d e : InputState) (text : List ℕ) : Type 0 where
  pub xs : List Entry
  pub head : TreeHead
  pub whole : IsWhole d e xs
  pub root : IsRootOf head xs
  pub proofs : IsTextOfProofs head xs rs text
