use Rattle.std.proofs.Common.{◌≤◌, length, take}
use Rattle.syslog_reading.specs.IdKeys.{Offered, offsets}
use Rattle.syslog_reading.proofs.distinct.fill_keys.Given as goal

abbrev pub invariant-loop-first : goal.invariant-loop-first
invariant-loop-first l = record {
  room : l.count ≤ length l.keys;
  within : length l.rest ≤ length l.elements;
  offered : Offered l.elements l.rest (offsets (take l.count l.keys));
}

abbrev pub decreases-loop-first : goal.decreases-loop-first
decreases-loop-first l = length l.rest
