use Rattle.std.proofs.Common.{length}
use Rattle.reconcile.proofs.checking.+is_chain.Given as goal

abbrev pub decreases-is_chain : goal.decreases-is_chain
decreases-is_chain l = length l.parts.now
