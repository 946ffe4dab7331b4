use Rattle.syslog_grammar.proofs.OneFault.{one_fault}
use Rattle.archive_laws.proofs.OneFault.{one_archive_fault}
use Rattle.archive_laws.proofs.faults.texts_have_one_fault.Goals as goal

pub returns : goal.returns
returns c = one_archive_fault one_fault
