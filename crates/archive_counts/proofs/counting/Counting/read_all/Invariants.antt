use Rattle.std.proofs.Common.{◌≡◌}
use Rattle.archive_streams.specs.Entries.{IsOpen, still_to_come}
use Rattle.archive_counts.specs.Counting.{Tabling}
use Rattle.archive_counts.proofs.counting.Counting.read_all.Given as goal

abbrev pub invariant-entries : goal.invariant-entries
invariant-entries g l = record {
  unclosed : IsOpen l.self.entries;
  told : (g.R.Input.state l.reader).failures ≡ (g.R.Input.state l.fn.reader).failures;
  tabling : Tabling l.keys l.self (g.R.Input.state l.fn.reader) (g.R.Input.state l.reader);
}

abbrev pub decreases-entries : goal.decreases-entries
decreases-entries g l = still_to_come l.self.entries
