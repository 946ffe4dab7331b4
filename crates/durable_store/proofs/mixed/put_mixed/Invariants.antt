use Rattle.std.proofs.Common.{◌≡◌, [], length}
use Rattle.disk.specs.Calls.{AtMostSyncs}
use Rattle.archive_pages.specs.Paged.{entries_from, entries_in}
use Rattle.record_store.specs.Segments.{draft_of}
use Rattle.durable_store.specs.Segments.{KeepsAside}
use Rattle.durable_store.proofs.Mixing.{MixedSoFar}
use Rattle.durable_store.proofs.mixed.put_mixed.Given as goal

abbrev pub invariant-days : goal.invariant-days
invariant-days g l = record {
  syncs : AtMostSyncs 0 (g.D.Disk.syncs l.fn.disk) (g.D.Disk.syncs l.disk);
  told : g.D.Disk.tells l.disk → g.D.Disk.tells l.fn.disk;
  name : draft_of l.draft ≡ draft_of l.fn.draft;
  aside : g.D.Disk.tells l.disk → KeepsAside (g.D.Disk.state l.fn.disk) (g.D.Disk.state l.disk) (draft_of l.fn.draft);
  put : MixedSoFar (g.D.Disk.tells l.disk) l.fn.total l.fn.draft (g.D.Disk.state l.fn.disk) [] l.draft
      (g.D.Disk.state l.disk) l.buffer.items (entries_in l.set) (entries_from l.set l.place);
}

abbrev pub decreases-days : goal.decreases-days
decreases-days g l = length (entries_from l.set l.place)
