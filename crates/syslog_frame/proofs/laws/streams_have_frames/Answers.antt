use Rattle.syslog_frame.proofs.Existence.{has_frames}
use Rattle.syslog_frame.proofs.laws.streams_have_frames.Goals as goal

pub returns : goal.returns
returns c = has_frames
