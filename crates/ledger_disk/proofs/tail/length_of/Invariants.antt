use Rattle.std.proofs.Common.{◌≡◌, ◌-◌, ◌^◌, ◌≤◌, List, ℕ, length}
use Rattle.std.specs.Prelude.{Some}
use Rattle.disk.specs.Calls.{IsUnchanged}
use Rattle.disk.specs.Memory.{shown_now}
use Rattle.journal.specs.Journals.{IsSound}
use Rattle.ledger_disk.proofs.tail.length_of.Given as goal

abbrev pub invariant-halved : goal.invariant-halved
invariant-halved g l = record {
  told : g.D.Disk.tells l.disk → g.D.Disk.tells l.initial.disk;
  same : g.D.Disk.tells l.disk → IsUnchanged (g.D.Disk.state l.initial.disk) (g.D.Disk.state l.disk);
  above : l.above ≤ 2 ^ 41;
  small : l.len ≤ 2 ^ 41;
  within : g.D.Disk.tells l.disk → IsSound (g.D.Disk.state l.initial.disk) → (file : List ℕ)
      → shown_now ((g.D.Disk.state l.initial.disk).entries l.name) ≡ Some file → l.len ≤ length file;
}

abbrev pub decreases-halved : goal.decreases-halved
decreases-halved g l = l.above - l.len
