use Rattle.std.proofs.Common.{◌-◌, ◌^◌, ◌≤◌}
use Rattle.disk.specs.Calls.{IsUnchanged}
use Rattle.ledger_disk.proofs.tail.bound.Given as goal

abbrev pub invariant-doubled : goal.invariant-doubled
invariant-doubled g l = record {
  told : g.D.Disk.tells l.disk → g.D.Disk.tells l.initial.disk;
  same : g.D.Disk.tells l.disk → IsUnchanged (g.D.Disk.state l.initial.disk) (g.D.Disk.state l.disk);
  some : 1 ≤ l.bound;
  small : l.bound ≤ 2 ^ 41;
}

abbrev pub decreases-doubled : goal.decreases-doubled
decreases-doubled g l = 2 ^ 41 - l.bound
