use Rattle.syslog_legacy.proofs.Valid.{read_valid}
use Rattle.syslog_legacy.proofs.law.legacy_is_a_record.Goals as goal

pub returns : goal.returns
returns c = read_valid
