use Rattle.archive_streams.specs.Entries.{IsOpen, still_to_come}
use Rattle.store_reading.proofs.Hashed.{HashesOf}
use Rattle.store_reading.proofs.segment_check.hash_segment.Given as goal

abbrev pub invariant-entries : goal.invariant-entries
invariant-entries g l = record {
  unclosed : IsOpen l.entries;
  hashes : HashesOf l.period l.entries l.hasher l.at (g.R.Input.state l.fn.reader) (g.R.Input.state l.reader);
}

abbrev pub decreases-entries : goal.decreases-entries
decreases-entries g l = still_to_come l.entries
