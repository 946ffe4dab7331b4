use Rattle.archive_join.proofs.JoinLaws.{parts_disjoint, parts_union}
use Rattle.archive_join.proofs.laws.common_and_minus_part_an_archive.Goals as goal

pub returns-clause-disjoint : goal.returns-clause-disjoint
returns-clause-disjoint c = parts_disjoint

pub returns-clause-union : goal.returns-clause-union
returns-clause-union c = parts_union
