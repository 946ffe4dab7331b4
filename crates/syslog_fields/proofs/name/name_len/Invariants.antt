use Rattle.std.proofs.Common.{◌-◌, ◌≤◌, take}
use Rattle.std.specs.List.{AllByRecursion}
use Rattle.syslog_value.specs.Parts.{IsNameOctet}
use Rattle.syslog_fields.proofs.name.name_len.Given as goal

abbrev pub invariant-loop-at : goal.invariant-loop-at
invariant-loop-at l = (l.at ≤ l.most) × AllByRecursion IsNameOctet (take l.at l.octets)

abbrev pub decreases-loop-at : goal.decreases-loop-at
decreases-loop-at l = l.most - l.at
