use Rattle.std.proofs.Common.{◌≡◌, ◌-◌, ◌^◌}
use Rattle.journal.specs.Journals.{KeepsOthers}
use Rattle.record_store.proofs.Anew.{CopiedUpTo}
use Rattle.record_store.proofs.renewing.copy.Given as goal

abbrev pub invariant-pieces : goal.invariant-pieces
invariant-pieces g l = record {
  told : g.D.Disk.tells l.disk → g.D.Disk.tells l.initial.disk;
  others : g.D.Disk.tells l.disk → KeepsOthers (g.D.Disk.state l.initial.disk) (g.D.Disk.state l.disk) l.to;
  lost : g.D.Disk.tells l.disk → (g.D.Disk.state l.disk).lost ≡ (g.D.Disk.state l.initial.disk).lost;
  copied : g.D.Disk.tells l.disk
      → CopiedUpTo (g.D.Disk.state l.initial.disk) (g.D.Disk.state l.disk) l.from l.to l.at;
}

abbrev pub decreases-pieces : goal.decreases-pieces
decreases-pieces g l = 2 ^ 62 - l.at
