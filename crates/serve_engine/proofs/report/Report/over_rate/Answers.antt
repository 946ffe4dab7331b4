use Rattle.serve_engine.proofs.report.Report.over_rate.Goals as goal

pub returns-clause-told : goal.returns-clause-told
returns-clause-told g c = c.tell.ensures.told
