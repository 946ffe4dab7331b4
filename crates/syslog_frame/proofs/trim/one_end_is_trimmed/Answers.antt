use Rattle.syslog_frame.proofs.Trimming.{cr_lf_trimmed}
use Rattle.syslog_frame.proofs.trim.one_end_is_trimmed.Goals as goal

pub returns-clause-cr_lf : goal.returns-clause-cr_lf
returns-clause-cr_lf c = cr_lf_trimmed
