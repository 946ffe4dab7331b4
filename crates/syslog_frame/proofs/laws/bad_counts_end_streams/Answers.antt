use Rattle.syslog_frame.proofs.FrameLaws.{bad_longer}
use Rattle.syslog_frame.proofs.laws.bad_counts_end_streams.Goals as goal

pub returns : goal.returns
returns c = bad_longer
