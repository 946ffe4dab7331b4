use Rattle.syslog_sender.proofs.Outputs.{last_in_force}
use Rattle.syslog_sender.proofs.law.last_mask_is_in_force.Goals as goal

pub returns : goal.returns
returns c = last_in_force
