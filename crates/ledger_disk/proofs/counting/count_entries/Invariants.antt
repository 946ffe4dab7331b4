use Rattle.std.proofs.Common.{◌≡◌, ◌-◌, ◌^◌, ◌≤◌, List, ℕ, length}
use Rattle.std.specs.Prelude.{Some}
use Rattle.disk.specs.Calls.{IsUnchanged}
use Rattle.disk.specs.Memory.{shown_now}
use Rattle.journal.specs.Journals.{IsSound}
use Rattle.ledger_disk.proofs.counting.count_entries.Given as goal

abbrev pub invariant-pieces : goal.invariant-pieces
invariant-pieces g l = record {
  told : g.D.Disk.tells l.disk → g.D.Disk.tells l.initial.disk;
  same : g.D.Disk.tells l.disk → IsUnchanged (g.D.Disk.state l.initial.disk) (g.D.Disk.state l.disk);
  read : g.D.Disk.tells l.disk → IsSound (g.D.Disk.state l.initial.disk) → (file : List ℕ)
      → shown_now ((g.D.Disk.state l.initial.disk).entries l.name) ≡ Some file → l.at ≤ length file;
}

abbrev pub decreases-pieces : goal.decreases-pieces
decreases-pieces g l = 2 ^ 62 - l.at
