use Rattle.archive_tree.proofs.TreeLaws.{hash_none, hash_one, hash_node}
use Rattle.archive_tree.proofs.laws.tree_hashes_are_of_the_standard.Goals as goal

pub returns : goal.returns
returns c = record { none = hash_none; one = hash_one; more = hash_node }
