use Rattle.std.proofs.Common.{length}
use Rattle.syslog_fields.proofs.FirstElements.{Scanned}
use Rattle.syslog_reading.proofs.first_element.marked_len.Given as goal

abbrev pub invariant-loop-offset : goal.invariant-loop-offset
invariant-loop-offset l = Scanned l.mark l.octets l.rest

abbrev pub decreases-loop-offset : goal.decreases-loop-offset
decreases-loop-offset l = length l.rest
