use Rattle.archive_laws.proofs.Limits.{wider_archive_fault}
use Rattle.archive_laws.proofs.faults.larger_limits_keep_faults.Goals as goal

pub returns : goal.returns
returns c = wider_archive_fault
