use Rattle.std.proofs.Common.{◌≡◌, ◌++◌, ◌*◌, List}
use Rattle.archive_pages.specs.Paged.{entries_from, entries_in}
use Rattle.archive_text.specs.Entries.{Entry}
use Rattle.disk.specs.Calls.{AtMostSyncs}
use Rattle.durable_store.specs.declared.checkpoint.TheConstants.{CHECKPOINT_SYNCS}
use Rattle.serve_engine.specs.Keepings.{Kept}
use Rattle.store_keeper.specs.Keepers.{KeepsOn, disk_of}
use Rattle.store_keeper.specs.Keeping.{with_held}
use Rattle.store_keeper.specs.Spares.{pages_of}
use Rattle.store_keeper.proofs.keeper.DiskKeeper.add_set.Given as goal

-- so far those before the place were taken
abbrev pub invariant-loop-round : goal.invariant-loop-round
invariant-loop-round g l = record {
  same : pages_of l.fresh ≡ pages_of l.fn.fresh;
  front : List Entry;
  parts : entries_in (pages_of l.fn.fresh) ≡ front ++ entries_from (pages_of l.fn.fresh) l.place;
  kept : (k : Kept) → KeepsOn l.fn.self k → KeepsOn l.self (with_held k front);
  syncs : AtMostSyncs (CHECKPOINT_SYNCS * l._round) (g.D.Disk.syncs (disk_of l.fn.self)) (g.D.Disk.syncs (disk_of l.self));
}
