use Rattle.archive_sets.proofs.SelectionLaws.{selecting_by_both}
use Rattle.archive_sets.proofs.laws.selecting_by_both_is_selecting_by_each.Goals as goal

pub returns : goal.returns
returns g c = selecting_by_both (g.A.Condition.meets c.args.first.now) (g.B.Condition.meets c.args.second.now)
