-- What is sealed.
use Rattle.std.specs.Prelude.{◌≡◌, ◌≢◌, ℕ, ℤ, List, Option, Some, codes, IsSomeAnd}
use Rattle.disk.specs.States.{Files, State}
use Rattle.hex.specs.Hex.{encode_lower}
use Rattle.archive_text.specs.Entries.{Entry}
use Rattle.archive_text.specs.Periods.{IsPeriodOf}
use Rattle.archive_text.specs.declared.period.Period.TheVariants.{Day}
use Rattle.archive_tree.specs.Archives.{texts_of}
use Rattle.archive_tree.specs.Tree.{tree_hash}
use Rattle.record_store.specs.Segments.{IsSegmentOf, segment_name}
use Rattle.store_reading.specs.Days.{IsDayBelow}
use Rattle.store_upkeep.specs.Compaction.{shown}
use Rattle.ledger.specs.declared.standing.Standing.{Standing}
use Rattle.ledger_disk.specs.Disks.{TellsSeal}

-- a day ended at or before an instant: it comes before the day of that
pub record IsOver (before : ℤ) (day : List ℕ) : Type 0 where
  pub dated : day ≢ codes "undated"
  pub next : List ℕ
  pub of : IsPeriodOf Day (Some before) next
  pub earlier : IsDayBelow day next

-- in hexadecimal the Merkle tree hash of the canonical octets of the entries of a whole segment of a period
pub record IsRootOfSegment (period name root file : List ℕ) : Type 0 where
  pub entries : List Entry
  pub archive : IsSegmentOf period file entries
  pub named : name ≡ segment_name period file
  pub root_is : root ≡ encode_lower (tree_hash (texts_of entries))

-- of the one that is under its name
abbrev pub IsRootIn : Files → List ℕ → List ℕ → List ℕ → Type 0
IsRootIn files period name root = IsSomeAnd (files name) (IsRootOfSegment period name root)

-- behind its whole lines the ledger has one more now, which seals the segment of a period that is under a name with its
-- root
pub record SealsSegment (old new : State) (known : Option Standing) (period name : List ℕ) : Type 0 where
  pub root : List ℕ
  pub is_root : IsRootIn (shown old) period name root
  pub told : TellsSeal old new known name root
