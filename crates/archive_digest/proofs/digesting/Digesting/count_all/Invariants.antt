use Rattle.std.proofs.Common.{◌≡◌}
use Rattle.archive_streams.specs.Entries.{IsOpen, still_to_come}
use Rattle.archive_digest.specs.Digesting.{Running}
use Rattle.archive_digest.proofs.digesting.Digesting.count_all.Given as goal

abbrev pub invariant-entries : goal.invariant-entries
invariant-entries g l = record {
  unclosed : IsOpen l.self.entries;
  reader : (g.R.Input.state l.reader).failures ≡ (g.R.Input.state l.fn.reader).failures;
  writer : (g.W.Output.state l.writer).failures ≡ (g.W.Output.state l.fn.writer).failures;
  running : Running l.fn.self.tally.roots l.period l.self (g.R.Input.state l.fn.reader) (g.R.Input.state l.reader)
      (g.W.Output.state l.fn.writer).taken (g.W.Output.state l.writer).taken;
}

abbrev pub decreases-entries : goal.decreases-entries
decreases-entries g l = still_to_come l.self.entries
