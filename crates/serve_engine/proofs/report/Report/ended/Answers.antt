use Rattle.serve_engine.proofs.Told.{of_then}
use Rattle.serve_engine.proofs.report.Report.ended.Goals as goal

pub returns-in-Reset-clause-told : goal.returns-in-Reset-clause-told
returns-in-Reset-clause-told g c = of_then _ 1 1 _ _ _ c.unterminated.ensures.told c.tell.ensures.told

pub returns-in-Idle-clause-told : goal.returns-in-Idle-clause-told
returns-in-Idle-clause-told g c = of_then _ 1 1 _ _ _ c.unterminated.ensures.told c.tell-in-Idle.ensures.told

pub returns-in-Displaced-clause-told : goal.returns-in-Displaced-clause-told
returns-in-Displaced-clause-told g c = of_then _ 1 1 _ _ _ c.unterminated.ensures.told c.tell-in-Displaced.ensures.told
