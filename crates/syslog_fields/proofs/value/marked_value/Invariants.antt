use Rattle.std.proofs.Common.{length}
use Rattle.syslog_fields.proofs.MarkedValues.{Passed}
use Rattle.syslog_fields.proofs.value.marked_value.Given as goal

abbrev pub invariant-loop-offset : goal.invariant-loop-offset
invariant-loop-offset l = Passed l.octets l.rest

abbrev pub decreases-loop-offset : goal.decreases-loop-offset
decreases-loop-offset l = length l.rest
