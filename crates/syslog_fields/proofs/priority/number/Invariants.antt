use Rattle.std.proofs.Common.{◌≡◌, ◌≤◌, ◌++◌, length}
use Rattle.std.specs.Fmt.{decimal}
use Rattle.syslog_fields.proofs.priority.number.Given as goal

abbrev pub invariant-loop-octet : goal.invariant-loop-octet
invariant-loop-octet l = record { digits : l.octets ≡ decimal l.value ++ l.rest; small : l.value ≤ 191 }

abbrev pub decreases-loop-octet : goal.decreases-loop-octet
decreases-loop-octet l = length l.rest
