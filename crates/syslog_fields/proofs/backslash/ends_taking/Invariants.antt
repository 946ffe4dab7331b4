use Rattle.std.proofs.Common.{◌≡◌, ◌-◌, false, length, take}
use Rattle.syslog_fields.specs.FirstElements.{takes_next}
use Rattle.syslog_fields.proofs.FirstElements.{turned}
use Rattle.syslog_fields.proofs.backslash.ends_taking.Given as goal

abbrev pub invariant-loop-i : goal.invariant-loop-i
invariant-loop-i l =
    takes_next false l.octets ≡ turned l.takes (takes_next false (take (length l.octets - l.i) l.octets))
