use Rattle.std.proofs.Common.{◌≤◌, length}
use Rattle.store_reading.proofs.Parted.{IsFrontOf}
use Rattle.store_reading.proofs.days.day_len.Given as goal

abbrev pub invariant-entries : goal.invariant-entries
invariant-entries l = record {
  front : IsFrontOf l.day l.text l.rest;
  short : length l.rest ≤ length l.text;
}

abbrev pub decreases-entries : goal.decreases-entries
decreases-entries l = length l.rest
