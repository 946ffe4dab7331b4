use Rattle.std.proofs.Common.{take}
use Rattle.archive_join.specs.Heads.{IsFoundIn}
use Rattle.archive_join.proofs.heads.least_head.Given as goal

abbrev pub invariant-heads : goal.invariant-heads
invariant-heads l = IsFoundIn l.heads (take l.at l.heads) l.least
