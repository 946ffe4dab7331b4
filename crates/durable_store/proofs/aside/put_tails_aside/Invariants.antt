use Rattle.std.proofs.Common.{take}
use Rattle.journal.specs.Journals.{IsSound}
use Rattle.durable_store.specs.Asides.{AreTails}
use Rattle.durable_store.proofs.Asides.{PutSo}
use Rattle.durable_store.proofs.aside.put_tails_aside.Given as goal

abbrev pub invariant-loop-tail : goal.invariant-loop-tail
invariant-loop-tail g l = record {
  told : g.D.Disk.tells l.disk → g.D.Disk.tells l.fn.disk;
  put : g.D.Disk.tells l.disk → IsSound (g.D.Disk.state l.fn.disk) → AreTails (g.D.Disk.state l.fn.disk) l.tails
      → PutSo (g.D.Disk.state l.fn.disk) (g.D.Disk.state l.disk) (take l.tail-index l.tails) l.asides.items;
}
