use Rattle.std.proofs.Common.{ap}
use Rattle.archive_engine.proofs.MergeLemmas.{ran_joined, ran_stopped}
use Rattle.archive_engine.proofs.merge.merge_archives.Goals as goal

pub returns-in-Ok : goal.returns-in-Ok
returns-in-Ok g c = ran_joined _ _ _ _ _ _ _ _ c.in-Ok.ensures.outcome c.in-Ok.ensures.told

pub returns-in-Err : goal.returns-in-Err
returns-in-Err g c =
    ran_stopped c.in-Err.fault _ _ _ _ _ _ _ _ _
    (λ is. let m = c.in-Err.ensures.memory (cc is) in
    (ap g.R1.Input.state m.0, ap g.R2.Input.state m.1, ap g.W.Output.state m.2)) c.in-Err.ensures.outcome c.in-Err.ensures.told
    c.report_merge_fault.ensures
