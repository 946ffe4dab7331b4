use Rattle.std.proofs.Common.{◌≤◌, length}
use Rattle.syslog_fields.specs.Grammar.{Param}
use Rattle.c_library.proofs.Walking.{Walked}
use Rattle.c_library.proofs.walk.from_param.Given as goal

abbrev pub invariant-loop-first : goal.invariant-loop-first
invariant-loop-first l = Walked Param l.text l.rest l.passed × (l.passed ≤ l.n)

abbrev pub decreases-loop-first : goal.decreases-loop-first
decreases-loop-first l = length l.rest
