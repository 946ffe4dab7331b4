use Rattle.std.proofs.Common.{length}
use Rattle.syslog_reading.proofs.IdTables.{Held}
use Rattle.syslog_reading.proofs.id_table.behind_new.Given as goal

abbrev pub invariant-loop-first : goal.invariant-loop-first
invariant-loop-first l = Held l.multiplier l.room l.slots l.structured_data l.rest

abbrev pub decreases-loop-first : goal.decreases-loop-first
decreases-loop-first l = length l.rest
