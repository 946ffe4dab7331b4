use Rattle.std.proofs.Common.{length}
use Rattle.reconcile.proofs.checking.+make_up.Given as goal

abbrev pub decreases-make_up : goal.decreases-make_up
decreases-make_up l = length l.parts.now
