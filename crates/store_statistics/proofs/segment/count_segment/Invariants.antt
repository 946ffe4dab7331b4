use Rattle.archive_streams.specs.Entries.{IsOpen, still_to_come}
use Rattle.store_statistics.proofs.Segments.{CountsOf}
use Rattle.store_statistics.proofs.segment.count_segment.Given as goal

abbrev pub invariant-entries : goal.invariant-entries
invariant-entries g l = record {
  unclosed : IsOpen l.entries;
  counts : CountsOf l.period l.entries l.at l.tally (g.R.Input.state l.fn.reader) (g.R.Input.state l.reader);
}

abbrev pub decreases-entries : goal.decreases-entries
decreases-entries g l = still_to_come l.entries
