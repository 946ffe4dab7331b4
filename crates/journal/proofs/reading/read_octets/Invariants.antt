use Rattle.std.proofs.Common.{◌≡◌, ◌≤◌, ◌-◌, ◌^◌, List, ℕ, length, take}
use Rattle.std.specs.Prelude.{Some}
use Rattle.disk.specs.Calls.{AtMostSyncs, IsUnchanged}
use Rattle.disk.specs.Memory.{shown_now}
use Rattle.journal.specs.Journals.{IsSound}
use Rattle.journal.proofs.reading.read_octets.Given as goal

abbrev pub invariant-loop-piece : goal.invariant-loop-piece
invariant-loop-piece g l = record {
  told : g.D.Disk.tells l.disk → g.D.Disk.tells l.initial.disk;
  same : g.D.Disk.tells l.disk → IsUnchanged (g.D.Disk.state l.initial.disk) (g.D.Disk.state l.disk);
  syncs : AtMostSyncs 0 (g.D.Disk.syncs l.initial.disk) (g.D.Disk.syncs l.disk);
  read : g.D.Disk.tells l.disk → IsSound (g.D.Disk.state l.initial.disk) → (file : List ℕ)
      → shown_now ((g.D.Disk.state l.initial.disk).entries l.name) ≡ Some file
      → (l.octets.items ≡ take (length l.octets.items) file) × (length l.octets.items ≤ length file);
}

abbrev pub decreases-loop-piece : goal.decreases-loop-piece
decreases-loop-piece g l = 2 ^ 40 - length l.octets.items
