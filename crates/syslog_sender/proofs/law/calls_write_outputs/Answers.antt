use Rattle.syslog_sender.proofs.Outputs.{steps_output}
use Rattle.syslog_sender.proofs.law.calls_write_outputs.Goals as goal

pub returns : goal.returns
returns c = steps_output
