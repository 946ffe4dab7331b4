use Rattle.serve_engine.proofs.Told.{of_none}
use Rattle.serve_engine.proofs.report.Report.outcome.Goals as goal

pub returns-in-New-clause-told : goal.returns-in-New-clause-told
returns-in-New-clause-told g c = of_none _ _ _ _ c.count.ensures.told
