use Rattle.syslog_reading.proofs.Laws.{one_meaning}
use Rattle.syslog_grammar.proofs.law.octets_are_one_record.Goals as goal

pub returns : goal.returns
returns c = one_meaning
