use Rattle.std.proofs.Common.{length}
use Rattle.archive_pages.specs.Paged.{entries_from, entries_in}
use Rattle.durable_store.specs.Segments.{octets_of}
use Rattle.durable_store.specs.Shares.{SyncsAlong}
use Rattle.durable_store.proofs.Daily.{DaysWritten}
use Rattle.durable_store.proofs.segments.write_days.Given as goal

abbrev pub invariant-days : goal.invariant-days
invariant-days g l = record {
  syncs : SyncsAlong l.fn.total (entries_in l.set) (entries_from l.set l.place) (g.D.Disk.syncs l.fn.disk)
      (g.D.Disk.syncs l.disk);
  told : g.D.Disk.tells l.disk → g.D.Disk.tells l.fn.disk;
  written : DaysWritten (g.D.Disk.tells l.disk) l.fn.total (octets_of l.fn.name) (g.D.Disk.state l.fn.disk) (g.D.Disk.state l.disk) l.skipped
      (entries_in l.set) (entries_from l.set l.place);
}

abbrev pub decreases-days : goal.decreases-days
decreases-days g l = length (entries_from l.set l.place)
