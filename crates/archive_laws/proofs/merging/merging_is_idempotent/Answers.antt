use Rattle.archive_laws.proofs.Merged.{idempotent}
use Rattle.archive_laws.proofs.merging.merging_is_idempotent.Goals as goal

pub returns : goal.returns
returns c = idempotent
