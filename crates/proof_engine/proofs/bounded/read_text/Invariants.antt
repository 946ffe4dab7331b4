use Rattle.std.proofs.Common.{◌≡◌, ◌+◌, ◌-◌, ◌≤◌, length}
use Rattle.std.specs.Io.KnownBytes.{Consumes}
use Rattle.proof_engine.proofs.bounded.read_text.Given as goal

abbrev pub invariant-pieces : goal.invariant-pieces
invariant-pieces g l = record {
  consumed : Consumes (g.R.Input.state l.fn.reader).left (g.R.Input.state l.reader).left l.text.items;
  calls : (g.R.Input.state l.reader).calls ≤ (g.R.Input.state l.fn.reader).calls + length l.text.items;
  few : length l.text.items ≤ l.limit + 1;
  no_failure : (g.R.Input.state l.reader).failures ≡ (g.R.Input.state l.fn.reader).failures;
  no_end : (g.R.Input.state l.reader).ends ≡ (g.R.Input.state l.fn.reader).ends;
}

abbrev pub decreases-pieces : goal.decreases-pieces
decreases-pieces g l = l.limit + 1 - length l.text.items
