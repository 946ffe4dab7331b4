use Rattle.std.proofs.Common.{◌≡◌}
use Rattle.archive_streams.specs.Merging.{IsSteady, height}
use Rattle.archive_streams.specs.Steps.{AreJoined}
use Rattle.archive_streams.proofs.merge.Merge.join.Given as goal

abbrev pub invariant-entries : goal.invariant-entries
invariant-entries g l = record {
  steady : IsSteady l.self;
  left : (g.R1.Input.state l.left).failures ≡ (g.R1.Input.state l.fn.left).failures;
  right : (g.R2.Input.state l.right).failures ≡ (g.R2.Input.state l.fn.right).failures;
  writer : (g.W.Output.state l.writer).failures ≡ (g.W.Output.state l.fn.writer).failures;
  joins : AreJoined l.fn.self l.self (g.R1.Input.state l.fn.left) (g.R1.Input.state l.left)
      (g.R2.Input.state l.fn.right) (g.R2.Input.state l.right) (g.W.Output.state l.fn.writer)
      (g.W.Output.state l.writer);
}

abbrev pub decreases-entries : goal.decreases-entries
decreases-entries g l = height l.self
