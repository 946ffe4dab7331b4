use Rattle.archive_join.proofs.RangeLaws.{ranges_joined}
use Rattle.archive_join.proofs.laws.archives_of_ranges_are_concatenated.Goals as goal

pub returns : goal.returns
returns c = ranges_joined
