use Rattle.archive_sets.proofs.SelectionLaws.{selecting_twice}
use Rattle.archive_sets.proofs.laws.selecting_is_idempotent.Goals as goal

pub returns : goal.returns
returns g c = selecting_twice (g.C.Condition.meets c.args.condition.now)
