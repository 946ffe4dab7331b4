use Rattle.std.proofs.Common.{length}
use Rattle.archive_proof.proofs.search.+look_all.Given as goal

abbrev pub decreases-look_all : goal.decreases-look_all
decreases-look_all l = length l.asked.now
