use Rattle.std.proofs.Common.{arith, length-append, ◌∙◌, sym}
use Rattle.archive_tree.proofs.TreeLaws.{hash_node}
use Rattle.archive_tree.proofs.head.TreeHead.above.Goals as goal

pub returns : goal.returns
returns c =
    λ h ys zs size some fits room left right.
    record {
      size = c.saturating_add.ensures ∙ omega (arith, length-append ys zs, left.size, right.size, room);
      hash = c.hash_node.ensures ∙ (rw (left.hash, right.hash) (sym (hash_node h ys zs size some fits)));
    }
