use Rattle.archive_laws.proofs.Merged.{associative}
use Rattle.archive_laws.proofs.merging.merging_is_associative.Goals as goal

pub returns : goal.returns
returns c = associative
