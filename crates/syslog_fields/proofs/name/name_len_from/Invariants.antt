use Rattle.std.proofs.Common.{take}
use Rattle.std.specs.List.{AllByRecursion}
use Rattle.syslog_value.specs.Parts.{IsNameOctet}
use Rattle.syslog_fields.proofs.name.name_len_from.Given as goal

abbrev pub invariant-loop-i : goal.invariant-loop-i
invariant-loop-i l = AllByRecursion IsNameOctet (take l.i l.octets)
