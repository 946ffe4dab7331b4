use Rattle.std.proofs.Common.{length}
use Rattle.reconcile.proofs.checking.+is_covered.Given as goal

abbrev pub decreases-is_covered : goal.decreases-is_covered
decreases-is_covered l = length l.parts.now
