use Rattle.archive_sets.proofs.Stops.{stopped_end}
use Rattle.archive_sets.proofs.selection.Selection.run.Goals as goal

pub returns-in-Err-finish-clause-outcome : goal.returns-in-Err-finish-clause-outcome
returns-in-Err-finish-clause-outcome g c =
    stopped_end _ c.copy.new.self c.in-Err-finish.field-0.sent _ _ _ _ _
    (λ text h. c.in-Err-finish.ensures.finishes.stops _ text h) c.in-Ok.ensures.outcome
