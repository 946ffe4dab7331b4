use Rattle.archive_streams.proofs.Turns.{run_outcome}
use Rattle.archive_streams.proofs.join.merge_streams.Goals as goal

pub returns-clause-outcome : goal.returns-clause-outcome
returns-clause-outcome g c =
    let left = g.R1.Input.state c.args.left.now in
    let right = g.R2.Input.state c.args.right.now in
    let start = (g.W.Output.state c.args.writer.now).taken in
    let both = c.in-Ok.ensures.both left right start in
    run_outcome c.run.result _ _ _ _ c.run.ensures.joined c.run.ensures.stopped
    (λ n j. j left right start both) (λ fault s. s left right start both)
