use Rattle.std.proofs.Common.{length}
use Rattle.syslog_fields.proofs.Messages.{Goes}
use Rattle.syslog_fields.proofs.text.characters.Given as goal

abbrev pub invariant-loop-octet : goal.invariant-loop-octet
invariant-loop-octet l = Goes l.octets l.rest

abbrev pub decreases-loop-octet : goal.decreases-loop-octet
decreases-loop-octet l = length l.rest
