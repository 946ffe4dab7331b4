use Rattle.std.proofs.Common.{◌∙◌, sym, refl}
use Rattle.archive_tree.proofs.TreeLaws.{hash_one}
use Rattle.archive_tree.proofs.head.TreeHead.of_one.Goals as goal

pub returns : goal.returns
returns c = record { size = refl; hash = c.hash_leaf.ensures ∙ sym (hash_one c.args.octets.now) }
