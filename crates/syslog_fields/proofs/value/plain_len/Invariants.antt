use Rattle.std.proofs.Common.{take}
use Rattle.std.specs.List.{AllByRecursion}
use Rattle.syslog_fields.specs.Values.{IsPlainOctet}
use Rattle.syslog_fields.proofs.value.plain_len.Given as goal

abbrev pub invariant-loop-i : goal.invariant-loop-i
invariant-loop-i l = AllByRecursion IsPlainOctet (take l.i l.octets)
