use Rattle.std.proofs.Common.{take}
use Rattle.syslog_reading.specs.FewIds.{IsNew}
use Rattle.syslog_reading.proofs.Rising.{texts}
use Rattle.syslog_reading.proofs.few_ids.FewIds.lacks.Given as goal

abbrev pub invariant-loop-i : goal.invariant-loop-i
invariant-loop-i l = IsNew l.id (texts (take l.i l.kept))
