-- The tree of an archive: its leaves are the canonical records, without their counts, in the archive's order.
use Rattle.std.specs.Prelude.{ℕ, List, map}
use Rattle.archive_text.specs.Entries.{Entry}
use Rattle.archive_tree.specs.Trees.{IsHeadOf}
use Rattle.archive_tree.specs.declared.head.TreeHead.{TreeHead}

-- the canonical octets of each entry
abbrev pub texts_of : List Entry → List (List ℕ)
texts_of es = map (λ e. e.octets) es

-- how many entries there are, and the Merkle tree hash of their canonical octets (RFC 9162, section 2.1.1)
abbrev pub IsRootOf : TreeHead → List Entry → Type 0
IsRootOf head es = IsHeadOf head (texts_of es)
