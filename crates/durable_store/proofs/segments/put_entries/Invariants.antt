use Rattle.std.proofs.Common.{◌≡◌, length}
use Rattle.disk.specs.Calls.{AtMostSyncs}
use Rattle.archive_text.specs.EntryViews.{entry_of}
use Rattle.archive_pages.specs.Paged.{entries_from}
use Rattle.record_store.specs.Segments.{draft_of}
use Rattle.durable_store.specs.Segments.{KeepsAside}
use Rattle.durable_store.proofs.Daily.{EntriesPut}
use Rattle.durable_store.proofs.segments.put_entries.Given as goal

abbrev pub invariant-entries : goal.invariant-entries
invariant-entries g l = record {
  syncs : AtMostSyncs 0 (g.D.Disk.syncs l.fn.disk) (g.D.Disk.syncs l.disk);
  told : g.D.Disk.tells l.disk → g.D.Disk.tells l.fn.disk;
  name : draft_of l.draft ≡ draft_of l.fn.draft;
  aside : g.D.Disk.tells l.disk → KeepsAside (g.D.Disk.state l.fn.disk) (g.D.Disk.state l.disk) (draft_of l.fn.draft);
  put : EntriesPut (g.D.Disk.tells l.disk) l.fn.draft (g.D.Disk.state l.fn.disk) l.fn.buffer.items l.draft
      (g.D.Disk.state l.disk) l.buffer.items l.fn.day (entry_of l.first) (entries_from l.set l.fn.behind)
      (entries_from l.set l.place);
}

abbrev pub decreases-entries : goal.decreases-entries
decreases-entries g l = length (entries_from l.set l.place)
