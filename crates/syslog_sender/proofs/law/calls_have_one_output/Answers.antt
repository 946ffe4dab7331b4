use Rattle.syslog_sender.proofs.Outputs.{output_once}
use Rattle.syslog_sender.proofs.law.calls_have_one_output.Goals as goal

pub returns : goal.returns
returns c = output_once
