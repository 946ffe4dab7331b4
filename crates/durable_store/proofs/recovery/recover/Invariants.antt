use Rattle.std.proofs.Common.{take}
use Rattle.disk.specs.Calls.{IsUnchanged}
use Rattle.journal.specs.Journals.{IsSound}
use Rattle.archive_pages.specs.Paged.{entries_in}
use Rattle.record_store.specs.Shown.{AreShown}
use Rattle.durable_store.proofs.Journals.{ReadSo}
use Rattle.durable_store.proofs.recovery.recover.Given as goal

abbrev pub invariant-loop-number : goal.invariant-loop-number
invariant-loop-number g l = record {
  told : g.D.Disk.tells l.disk → g.D.Disk.tells l.fn.disk;
  same : g.D.Disk.tells l.disk → IsUnchanged (g.D.Disk.state l.fn.disk) (g.D.Disk.state l.disk);
  shown : g.D.Disk.tells l.disk → IsSound (g.D.Disk.state l.fn.disk)
      → AreShown (g.D.Disk.state l.fn.disk) 18446744073709551615 l.number-items;
  read : g.D.Disk.tells l.disk → IsSound (g.D.Disk.state l.fn.disk)
      → ReadSo (g.D.Disk.state l.fn.disk) (take l.number-index l.number-items) (entries_in l.set) l.tails.items;
}
