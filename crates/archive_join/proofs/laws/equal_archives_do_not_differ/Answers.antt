use Rattle.archive_join.proofs.JoinLaws.{equal_diff, equal_minus}
use Rattle.archive_join.proofs.laws.equal_archives_do_not_differ.Goals as goal

pub returns-clause-minus : goal.returns-clause-minus
returns-clause-minus c = equal_minus

pub returns-clause-diff : goal.returns-clause-diff
returns-clause-diff c = equal_diff
