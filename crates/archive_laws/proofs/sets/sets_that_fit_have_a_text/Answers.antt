use Rattle.archive_laws.proofs.Collected.{set_text}
use Rattle.archive_laws.proofs.sets.sets_that_fit_have_a_text.Goals as goal

pub returns : goal.returns
returns c = set_text
