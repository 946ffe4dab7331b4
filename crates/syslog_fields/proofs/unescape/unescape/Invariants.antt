use Rattle.std.proofs.Common.{length}
use Rattle.syslog_fields.proofs.Unescaped.{Unescapes}
use Rattle.syslog_fields.proofs.unescape.unescape.Given as goal

abbrev pub invariant-loop-offset : goal.invariant-loop-offset
invariant-loop-offset l = Unescapes l.raw l.rest l.out.items

abbrev pub decreases-loop-offset : goal.decreases-loop-offset
decreases-loop-offset l = length l.rest
