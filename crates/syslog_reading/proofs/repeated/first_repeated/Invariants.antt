use Rattle.std.proofs.Common.{length}
use Rattle.syslog_reading.specs.Ids.{Known}
use Rattle.syslog_reading.proofs.repeated.first_repeated.Given as goal

abbrev pub invariant-loop-first : goal.invariant-loop-first
invariant-loop-first l = Known l.structured_data l.rest

abbrev pub decreases-loop-first : goal.decreases-loop-first
decreases-loop-first l = length l.rest
