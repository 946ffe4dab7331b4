use Rattle.archive_laws.proofs.Merged.{one_text}
use Rattle.archive_laws.proofs.sets.one_set_has_one_text.Goals as goal

pub returns : goal.returns
returns c = one_text
