use Rattle.std.proofs.Common.{take}
use Rattle.std.specs.List.{AllByRecursion}
use Rattle.syslog_legacy.specs.Runs.{IsOf}
use Rattle.syslog_legacy.proofs.runs.run_len.Given as goal

abbrev pub invariant-loop-i : goal.invariant-loop-i
invariant-loop-i l = AllByRecursion (IsOf l.class) (take l.i l.octets)
