use Rattle.archive_join.proofs.JoinLaws.{union_of_two}
use Rattle.archive_join.proofs.laws.union_of_two_is_what_merging_gives.Goals as goal

pub returns-clause-entries : goal.returns-clause-entries
returns-clause-entries c = union_of_two
