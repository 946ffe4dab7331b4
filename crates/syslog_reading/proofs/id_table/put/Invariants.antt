use Rattle.std.proofs.Common.{◌≡◌}
use Rattle.syslog_reading.proofs.IdTables.{Sought}
use Rattle.syslog_reading.proofs.id_table.put.Given as goal

abbrev pub invariant-loop-i : goal.invariant-loop-i
invariant-loop-i l = record { same : l.slots ≡ l.fn.slots; sought : Sought l.tag l.start l.i l.slots }
