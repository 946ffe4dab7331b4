use Rattle.std.proofs.Common.{length}
use Rattle.reconcile.proofs.checking.+are_cuts.Given as goal

abbrev pub decreases-are_cuts : goal.decreases-are_cuts
decreases-are_cuts l = length l.parts.now
