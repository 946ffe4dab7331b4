use Rattle.archive_join.proofs.JoinLaws.{one_union, union_grouping, union_order}
use Rattle.archive_join.proofs.laws.union_is_that_of_all_sets.Goals as goal

pub returns-clause-same : goal.returns-clause-same
returns-clause-same c = one_union

pub returns-clause-order : goal.returns-clause-order
returns-clause-order c = union_order

pub returns-clause-grouping : goal.returns-clause-grouping
returns-clause-grouping c = union_grouping
