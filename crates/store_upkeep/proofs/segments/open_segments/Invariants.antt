use Rattle.std.proofs.Common.{List, ℕ, map, take}
use Rattle.std.specs.Prelude.{Contains}
use Rattle.disk.specs.Calls.{IsUnchanged}
use Rattle.journal.specs.Journals.{IsSound}
use Rattle.record_store.specs.Names.{IsSegment}
use Rattle.store_reading.specs.Segments.{AreSegmentsOf}
use Rattle.store_upkeep.specs.Compaction.{AreWholeAt, shown}
use Rattle.store_upkeep.proofs.segments.open_segments.Given as goal

abbrev pub invariant-segments : goal.invariant-segments
invariant-segments g l = record {
  told : g.D.Disk.tells l.disk → g.D.Disk.tells l.fn.disk;
  same : g.D.Disk.tells l.disk → IsUnchanged (g.D.Disk.state l.fn.disk) (g.D.Disk.state l.disk);
  opened : g.D.Disk.tells l.disk → IsSound (g.D.Disk.state l.fn.disk)
      → ((name : List ℕ) → Contains l.segments name → IsSegment l.period name)
      → AreSegmentsOf (shown (g.D.Disk.state l.fn.disk)) (take l.segment-index l.segments) l.period
      (map g.D.File.Input.state l.inputs.items);
  whole : g.D.Disk.tells l.disk → IsSound (g.D.Disk.state l.fn.disk)
      → ((name : List ℕ) → Contains l.segments name → IsSegment l.period name)
      → AreWholeAt (shown (g.D.Disk.state l.fn.disk)) (take l.segment-index l.segments);
}
