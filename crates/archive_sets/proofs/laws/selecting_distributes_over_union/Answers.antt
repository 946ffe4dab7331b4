use Rattle.archive_sets.proofs.SelectionLaws.{selected_union, union_selected}
use Rattle.archive_sets.proofs.laws.selecting_distributes_over_union.Goals as goal

pub returns-clause-union : goal.returns-clause-union
returns-clause-union g c = union_selected (g.C.Condition.meets c.args.condition.now)

pub returns-clause-selection : goal.returns-clause-selection
returns-clause-selection g c = selected_union (g.C.Condition.meets c.args.condition.now)
