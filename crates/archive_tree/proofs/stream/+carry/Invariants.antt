use Rattle.std.proofs.Common.{length}
use Rattle.archive_tree.proofs.stream.+carry.Given as goal

abbrev pub decreases-carry : goal.decreases-carry
decreases-carry l = length l.heads.now.items
