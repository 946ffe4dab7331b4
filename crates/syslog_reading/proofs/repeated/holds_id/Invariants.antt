use Rattle.std.proofs.Common.{length}
use Rattle.syslog_reading.proofs.Repeating.{Seeks}
use Rattle.syslog_reading.proofs.repeated.holds_id.Given as goal

abbrev pub invariant-loop-first : goal.invariant-loop-first
invariant-loop-first l = Seeks l.elements l.id l.rest

abbrev pub decreases-loop-first : goal.decreases-loop-first
decreases-loop-first l = length l.rest
