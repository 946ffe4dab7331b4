use Rattle.syslog_reading.proofs.Valid.{well_formed_valid}
use Rattle.syslog_grammar.proofs.law.well_formed_is_a_record.Goals as goal

pub returns : goal.returns
returns c = well_formed_valid
