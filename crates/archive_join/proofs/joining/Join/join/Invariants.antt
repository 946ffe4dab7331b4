use Rattle.std.proofs.Common.{◌≡◌, length, map, vec_len}
use Rattle.archive_join.specs.Failures.{failures_of}
use Rattle.archive_join.specs.Heads.{total}
use Rattle.archive_join.specs.Joining.{Joining}
use Rattle.archive_join.specs.Sides.{AreIdle}
use Rattle.archive_join.proofs.joining.Join.join.Given as goal

abbrev pub invariant-entries : goal.invariant-entries
invariant-entries g l = record {
  inputs : length l.inputs ≡ vec_len l.self.heads;
  idle : AreIdle l.self.holders.items;
  joining : Joining (g.K.Kept.keeps l.kept) (g.K.Kept.text l.kept) l.self (map g.R.Input.state l.fn.inputs)
      (map g.R.Input.state l.inputs) (g.W.Output.state l.fn.writer).taken (g.W.Output.state l.writer).taken;
  read : failures_of (map g.R.Input.state l.inputs) ≡ failures_of (map g.R.Input.state l.fn.inputs);
  written : (g.W.Output.state l.writer).failures ≡ (g.W.Output.state l.fn.writer).failures;
}

abbrev pub decreases-entries : goal.decreases-entries
decreases-entries g l = total l.self.heads.items
