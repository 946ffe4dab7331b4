use Rattle.archive_laws.proofs.Merged.{commutative}
use Rattle.archive_laws.proofs.merging.merging_is_commutative.Goals as goal

pub returns : goal.returns
returns c = commutative
