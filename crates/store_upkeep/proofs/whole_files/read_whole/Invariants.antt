use Rattle.std.proofs.Common.{◌≡◌, ◌≤◌, ◌-◌, ◌^◌, length, take}
use Rattle.std.specs.Prelude.{Some}
use Rattle.disk.specs.Calls.{IsUnchanged}
use Rattle.disk.specs.Files.{File}
use Rattle.journal.specs.Journals.{IsSound}
use Rattle.store_upkeep.proofs.whole_files.read_whole.Given as goal

abbrev pub invariant-loop-piece : goal.invariant-loop-piece
invariant-loop-piece g l = record {
  told : g.D.Disk.tells l.disk → g.D.Disk.tells l.initial.disk;
  same : g.D.Disk.tells l.disk → IsUnchanged (g.D.Disk.state l.initial.disk) (g.D.Disk.state l.disk);
  read : g.D.Disk.tells l.disk → IsSound (g.D.Disk.state l.initial.disk) → (file : File)
      → ((g.D.Disk.state l.initial.disk).entries l.name).now ≡ Some file
      → (l.octets.items ≡ take (length l.octets.items) file.shown) × (length l.octets.items ≤ length file.shown);
}

abbrev pub decreases-loop-piece : goal.decreases-loop-piece
decreases-loop-piece g l = 2 ^ 40 - length l.octets.items
