use Rattle.archive_streams.specs.Entries.{IsOpen, still_to_come}
use Rattle.store_reading.specs.Sources.{set_entries}
use Rattle.store_reading.proofs.Mixed.{MixedAdded}
use Rattle.store_reading.proofs.memory.add_entries.Given as goal

abbrev pub invariant-entries : goal.invariant-entries
invariant-entries g l = record {
  unclosed : IsOpen l.entries;
  added : MixedAdded l.range (set_entries l.fn.set) (set_entries l.set) l.entries l.hasher (g.R.Input.state l.fn.reader)
      (g.R.Input.state l.reader);
}

abbrev pub decreases-entries : goal.decreases-entries
decreases-entries g l = still_to_come l.entries
