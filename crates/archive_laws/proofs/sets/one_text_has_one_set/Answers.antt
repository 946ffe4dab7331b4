use Rattle.archive_laws.proofs.Merged.{one_set}
use Rattle.archive_laws.proofs.sets.one_text_has_one_set.Goals as goal

pub returns : goal.returns
returns c = one_set
