use Rattle.archive_tree.proofs.TreeLaws.{path_is_short}
use Rattle.archive_tree.proofs.Rooms.{heads_are_few}
use Rattle.archive_tree.proofs.laws.room_is_enough.Goals as goal

pub returns : goal.returns
returns c = record { heads = heads_are_few; path = path_is_short }
