use Rattle.syslog_reading.proofs.Excluded.{no_record}
use Rattle.syslog_grammar.proofs.law.faulty_octets_are_no_record.Goals as goal

pub returns : goal.returns
returns c = no_record
