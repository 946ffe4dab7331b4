-- The root of a segment that was opened twice.
use Rattle.std.proofs.Common.{◌≡◌, List, ◌++◌, Option, None, Some, arith, sym, ap, subst, ◌∙◌, append-nil, ℕ}
use Rattle.std.specs.Prelude.{IsSomeAnd}
use Rattle.std.specs.Io.KnownBytes.{Consumes, IsAtEnd}
use Rattle.disk.specs.Calls.{IsUnchanged}
use Rattle.disk.specs.Memory.{shown_now}
use Rattle.disk.specs.States.{Entry as DiskEntry, State}
use Rattle.hex.specs.Hex.{encode_lower}
use Rattle.octet_devices.specs.Device.{InputState}
use Rattle.archive_text.specs.Entries.{Entry}
use Rattle.archive_text.specs.Text.{text_of}
use Rattle.archive_text.specs.declared.limits.TheConstants.{ENTRY_MAX}
use Rattle.archive_text.proofs.Texts.{same_text}
use Rattle.archive_tree.specs.Archives.{texts_of}
use Rattle.archive_tree.specs.Tree.{tree_hash}
use Rattle.archive_tree.specs.declared.head.TreeHead.{TreeHead}
use Rattle.proof_engine.specs.Rooting.{HasRoot}
use Rattle.store_reading.specs.Damages.{OfLeft}
use Rattle.store_reading.specs.Folders.{Opens}
use Rattle.store_reading.specs.Whole.{IsWholeSegment}
use Rattle.store_upkeep.specs.Compaction.{shown}
use Rattle.ledger_engine.specs.Sealing.{IsRootIn, IsRootOfSegment}

-- what was read to its end was all of it
read_all : (left later : Option (List ℕ)) (file given : List ℕ) → left ≡ Some file → Consumes left later given
    → IsAtEnd later → file ≡ given
read_all None later file given is step end = absurd (cc is)
read_all (Some x) None file given is step end = absurd step
read_all (Some x) (Some y) file given is step end =
    let same : x ≡ file = cc in
    sym same ∙ step ∙ ap (λ (l : List ℕ). given ++ l) end ∙ append-nil given

root_of_file : (period name root file : List ℕ) (two e : InputState) (head : TreeHead)
    → IsWholeSegment period name file → two.left ≡ Some file → HasRoot head two e → root ≡ encode_lower head.hash
    → IsRootOfSegment period name root file
root_of_file period name root file two e head whole opened r is =
    let text = read_all two.left e.left file (text_of r.xs) opened r.whole.consumed r.whole.none_left in
    let same : whole.entries ≡ r.xs = same_text ENTRY_MAX ENTRY_MAX whole.entries r.xs (omega arith) (omega arith)
    whole.archive.archive r.whole.archive (sym whole.archive.text_is ∙ text) in
    record {
      entries = whole.entries;
      archive = whole.archive;
      named = whole.named;
      root_is = is ∙ ap encode_lower (r.root.hash ∙ ap (λ (es : List Entry). tree_hash (texts_of es)) (sym same));
    }

-- the segment was opened, and is whole; and opened again, and its root taken
pub root_in : (old mid : State) (period name root : List ℕ) (one two e : InputState) (head : TreeHead)
    → IsUnchanged old mid → Opens (shown old) name one → OfLeft one (IsWholeSegment period name)
    → Opens (shown mid) name two → HasRoot head two e → root ≡ encode_lower head.hash
    → IsRootIn (shown old) period name root
root_in old mid period name root one two e head same first whole second r is =
    by_file (shown old name) first
    (subst (λ (o : Option (List ℕ)). IsSomeAnd o (λ octets. two.left ≡ Some octets))
    (ap (λ (entry : DiskEntry). shown_now entry) (same.entries name)) second)
  where
    by_file : (o : Option (List ℕ)) → IsSomeAnd o (λ octets. one.left ≡ Some octets)
        → IsSomeAnd o (λ octets. two.left ≡ Some octets) → IsSomeAnd o (IsRootOfSegment period name root)
    by_file None left again = left
    by_file (Some file) left again =
        root_of_file period name root file two e head (whole file left) again r is
