use Rattle.std.proofs.Common.{◌≡◌, List}
use Rattle.archive_text.specs.Entries.{Entry}
use Rattle.archive_streams.specs.Entries.{IsOpen, still_to_come}
use Rattle.proof_engine.specs.Proving.{IsFresh, Taking}
use Rattle.proof_engine.proofs.proving.Proving.read_all.Given as goal

abbrev pub invariant-entries : goal.invariant-entries
invariant-entries g l = record {
  unclosed : IsOpen l.self.entries;
  told : (g.R.Input.state l.reader).failures ≡ (g.R.Input.state l.fn.reader).failures;
  taking : (rs : List Entry) → IsFresh rs l.fn.self
      → Taking rs l.self (g.R.Input.state l.fn.reader) (g.R.Input.state l.reader);
}

abbrev pub decreases-entries : goal.decreases-entries
decreases-entries g l = still_to_come l.self.entries
