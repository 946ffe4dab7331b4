use Rattle.std.proofs.Common.{length}
use Rattle.reconcile.proofs.ascending.+do_ascend.Given as goal

abbrev pub decreases-do_ascend : goal.decreases-do_ascend
decreases-do_ascend l = length l.parts.now
