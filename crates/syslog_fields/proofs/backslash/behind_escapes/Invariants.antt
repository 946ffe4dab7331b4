use Rattle.std.proofs.Common.{length}
use Rattle.syslog_fields.specs.Values.{PassesEscapes}
use Rattle.syslog_fields.proofs.backslash.behind_escapes.Given as goal

abbrev pub invariant-loop-behind : goal.invariant-loop-behind
invariant-loop-behind l = PassesEscapes l.octets l.rest

abbrev pub decreases-loop-behind : goal.decreases-loop-behind
decreases-loop-behind l = length l.rest
