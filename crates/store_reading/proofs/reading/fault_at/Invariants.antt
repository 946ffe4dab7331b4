use Rattle.std.proofs.Common.{◌≤◌, take}
use Rattle.store_reading.specs.Faults.{HasSegments}
use Rattle.store_reading.proofs.reading.fault_at.Given as goal

abbrev pub invariant-names : goal.invariant-names
invariant-names l = record {
  counted : HasSegments l.period (take l.name-index l.names) l.at;
  few : l.at ≤ l.name-index;
  before : l.at ≤ l.input;
}
