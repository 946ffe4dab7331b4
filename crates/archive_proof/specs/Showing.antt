-- What a proof shows of an entry, to someone who has the head of an archive's tree.
use Rattle.std.specs.Prelude.{◌≡◌, ℕ, ◌+◌, ◌<◌, List, [], Option, None, Some, ◌⊎◌, reverse}
use Rattle.sha2.specs.Sha256.{sha256}
use Rattle.archive_text.specs.Entries.{Entry, IsBelow, IsEntry}
use Rattle.archive_tree.specs.Tree.{leaf_hash}
use Rattle.archive_tree.specs.declared.audit_path.AuditPath.{AuditPath}
use Rattle.archive_tree.specs.declared.head.TreeHead.{TreeHead}
use Rattle.archive_proof.specs.Climbing.{climb, Collision}
use Rattle.archive_tree.specs.Archives.{texts_of}
use Rattle.archive_proof.specs.declared.proof.Neighbour.{Neighbour}
use Rattle.archive_proof.specs.declared.proof.Proof.{Proof}
use Rattle.archive_proof.specs.declared.proof.Proof.TheVariants.{Present, Absent}

-- the path leads from an entry of these octets to the root (RFC 9162, section 2.1.3.2)
pub record Leads (head : TreeHead) (octets : List ℕ) (p : AuditPath) : Type 0 where
  pub within : p.index < head.size
  pub climbs : climb 64 head.size p.index (leaf_hash octets) (reverse p.hashes.items) ≡ Some head.hash

-- the neighbour is this entry, and its path leads to the root
pub record Stands (head : TreeHead) (n : Neighbour) (e : Entry) : Type 0 where
  pub entry : IsEntry e
  pub octets : e.octets ≡ n.octets.items
  pub leads : Leads head n.octets.items n.path

-- the neighbour stands in the tree, and comes before the entry
pub record StandsBefore (head : TreeHead) (n : Neighbour) (x : Entry) : Type 0 where
  pub own : Entry
  pub stands : Stands head n own
  pub below : IsBelow own x

-- it comes behind the entry
pub record StandsBehind (head : TreeHead) (n : Neighbour) (x : Entry) : Type 0 where
  pub own : Entry
  pub stands : Stands head n own
  pub below : IsBelow x own

-- the entry lies between two that stand next to each other, or before the first, or behind the last, or there are none
abbrev pub Parts : TreeHead → Entry → Option Neighbour → Option Neighbour → Type 0
Parts head x None None = (head.size ≡ 0) × (head.hash ≡ sha256 [])
Parts head x None (Some s) = (s.path.index ≡ 0) × StandsBehind head s x
Parts head x (Some p) None = (p.path.index + 1 ≡ head.size) × StandsBefore head p x
Parts head x (Some p) (Some s) =
    (p.path.index + 1 ≡ s.path.index) × StandsBefore head p x × StandsBehind head s x

-- the entry is one of the archive
abbrev pub ShowsPresent : TreeHead → Entry → Proof → Type 0
ShowsPresent head x (Present path) = Leads head x.octets path
ShowsPresent head x (Absent before behind) = ⊥

-- it is none of them
abbrev pub ShowsAbsent : TreeHead → Entry → Proof → Type 0
ShowsAbsent head x (Present path) = ⊥
ShowsAbsent head x (Absent before behind) = Parts head x before behind

-- ---- collisions: a text that the tree of the entries hashes and another, which the proof hashes, have one SHA-256

-- on the way from an entry of these octets
abbrev pub CollidesOn : List Entry → List ℕ → AuditPath → Type 0
CollidesOn xs octets p = Collision 64 (texts_of xs) p.index octets (reverse p.hashes.items)

-- on the way from the neighbour
abbrev pub CollidesAt : List Entry → Option Neighbour → Type 0
CollidesAt xs None = ⊥
CollidesAt xs (Some n) = CollidesOn xs n.octets.items n.path

-- on a way of the proof
abbrev pub Collides : List Entry → List ℕ → Proof → Type 0
Collides xs octets (Present path) = CollidesOn xs octets path
Collides xs octets (Absent before behind) = CollidesAt xs before ⊎ CollidesAt xs behind
