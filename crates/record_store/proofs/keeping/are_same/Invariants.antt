use Rattle.std.proofs.Common.{◌-◌, ◌^◌}
use Rattle.disk.specs.Calls.{AtMostSyncs, IsUnchanged}
use Rattle.record_store.proofs.Compared.{AgreeUpTo}
use Rattle.record_store.proofs.Differing.{Reaches}
use Rattle.record_store.proofs.keeping.are_same.Given as goal

abbrev pub invariant-pieces : goal.invariant-pieces
invariant-pieces g l = record {
  syncs : AtMostSyncs 0 (g.D.Disk.syncs l.initial.disk) (g.D.Disk.syncs l.disk);
  told : g.D.Disk.tells l.disk → g.D.Disk.tells l.initial.disk;
  same : g.D.Disk.tells l.disk → IsUnchanged (g.D.Disk.state l.initial.disk) (g.D.Disk.state l.disk);
  agree : g.D.Disk.tells l.disk → AgreeUpTo (g.D.Disk.state l.initial.disk) l.one l.other l.at;
  reaches : g.D.Disk.tells l.disk → Reaches (g.D.Disk.state l.initial.disk) l.one l.other l.at;
}

abbrev pub decreases-pieces : goal.decreases-pieces
decreases-pieces g l = 2 ^ 62 - l.at
