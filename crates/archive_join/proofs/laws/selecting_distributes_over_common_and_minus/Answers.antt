use Rattle.archive_join.proofs.JoinLaws.{common_selected, minus_selected}
use Rattle.archive_join.proofs.laws.selecting_distributes_over_common_and_minus.Goals as goal

pub returns-clause-common : goal.returns-clause-common
returns-clause-common g c = common_selected (g.C.Condition.meets c.args.condition.now)

pub returns-clause-minus : goal.returns-clause-minus
returns-clause-minus g c = minus_selected (g.C.Condition.meets c.args.condition.now)
