use Rattle.std.proofs.Common.{◌≡◌, ◌≤◌, ◌<◌, ◌-◌, List, ℕ, drop, length, take}
use Rattle.std.specs.Prelude.{IsSome, Some}
use Rattle.disk.specs.Calls.{IsUnchanged}
use Rattle.disk.specs.Memory.{shown_now}
use Rattle.journal.specs.Journals.{IsSound}
use Rattle.store_follow.proofs.reading.read_at.Given as goal

abbrev pub invariant-loop-piece : goal.invariant-loop-piece
invariant-loop-piece g l = record {
  told : g.D.Disk.tells l.disk → g.D.Disk.tells l.initial.disk;
  same : g.D.Disk.tells l.disk → IsUnchanged (g.D.Disk.state l.initial.disk) (g.D.Disk.state l.disk);
  within : length l.octets.items ≤ l.len;
  there : 0 < length l.octets.items → g.D.Disk.tells l.disk → IsSound (g.D.Disk.state l.initial.disk)
      → IsSome ((g.D.Disk.state l.initial.disk).entries l.name).now;
  read : g.D.Disk.tells l.disk → IsSound (g.D.Disk.state l.initial.disk) → (file : List ℕ)
      → shown_now ((g.D.Disk.state l.initial.disk).entries l.name) ≡ Some file
      → l.octets.items ≡ take (length l.octets.items) (drop l.at file);
}

abbrev pub decreases-loop-piece : goal.decreases-loop-piece
decreases-loop-piece g l = l.len - length l.octets.items
