use Rattle.std.proofs.Common.{◌∙◌}
use Rattle.archive_spill.proofs.JoinedRuns.{joined_run}
use Rattle.archive_spill.proofs.joins.join_runs.Goals as goal

pub returns-in-Ok-clause-joins : goal.returns-in-Ok-clause-joins
returns-in-Ok-clause-joins g c = λ tells xss runs.
    let one = joined_run _ _ _ _ _ xss (c.in_ok-written.ensures.empty tells) runs c.in_default.ensures.outcome in
    (one.ys, (c.in-Ok.ensures.left (c.make.ensures.tells tells) ∙ one.text, one.archive), one.united)
