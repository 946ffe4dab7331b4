use Rattle.archive_laws.proofs.Limits.{text_has_no_fault}
use Rattle.archive_laws.proofs.faults.archives_have_no_fault.Goals as goal

pub returns : goal.returns
returns c = text_has_no_fault
