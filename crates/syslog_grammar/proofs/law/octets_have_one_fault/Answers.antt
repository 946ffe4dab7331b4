use Rattle.syslog_grammar.proofs.OneFault.{one_fault}
use Rattle.syslog_grammar.proofs.law.octets_have_one_fault.Goals as goal

pub returns : goal.returns
returns c = one_fault
