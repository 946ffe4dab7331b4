use Rattle.archive_laws.proofs.Limits.{wider_text}
use Rattle.archive_laws.proofs.sets.larger_limits_keep_archives.Goals as goal

pub returns : goal.returns
returns c = wider_text
