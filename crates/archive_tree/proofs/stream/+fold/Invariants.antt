use Rattle.std.proofs.Common.{length}
use Rattle.archive_tree.proofs.stream.+fold.Given as goal

abbrev pub decreases-fold : goal.decreases-fold
decreases-fold l = length l.heads.now.items
