use Rattle.std.proofs.Common.{◌≡◌, ◌-◌, length}
use Rattle.std.specs.Prelude.{Some}
use Rattle.disk.specs.Calls.{IsUnchanged}
use Rattle.disk.specs.Files.{File}
use Rattle.journal.specs.Journals.{IsSound}
use Rattle.ledger_disk.proofs.Tails.{IsReadFrom}
use Rattle.ledger_disk.proofs.tail.read_from.Given as goal

abbrev pub invariant-pieces : goal.invariant-pieces
invariant-pieces g l = record {
  told : g.D.Disk.tells l.disk → g.D.Disk.tells l.initial.disk;
  same : g.D.Disk.tells l.disk → IsUnchanged (g.D.Disk.state l.initial.disk) (g.D.Disk.state l.disk);
  read : g.D.Disk.tells l.disk → IsSound (g.D.Disk.state l.initial.disk) → (file : File)
      → ((g.D.Disk.state l.initial.disk).entries l.name).now ≡ Some file
      → IsReadFrom file.shown l.at l.octets.items;
}

abbrev pub decreases-pieces : goal.decreases-pieces
decreases-pieces g l = 4096 - length l.octets.items
