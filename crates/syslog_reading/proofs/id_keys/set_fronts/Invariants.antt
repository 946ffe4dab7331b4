use Rattle.std.proofs.Common.{◌≡◌}
use Rattle.syslog_reading.specs.IdKeys.{offsets}
use Rattle.syslog_reading.proofs.id_keys.set_fronts.Given as goal

abbrev pub invariant-loop-i : goal.invariant-loop-i
invariant-loop-i l = offsets l.keys ≡ offsets l.fn.keys
