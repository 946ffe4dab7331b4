use Rattle.std.proofs.Common.{take}
use Rattle.archive_join.specs.Keeping.{DoAllHave}
use Rattle.archive_join.proofs.common.are_all.Given as goal

abbrev pub invariant-loop-has : goal.invariant-loop-has
invariant-loop-has l = DoAllHave (take l.has-index l.holders)
