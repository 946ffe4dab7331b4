use Rattle.syslog_value.proofs.Masks.{same_mask}
use Rattle.syslog_value.proofs.mask.masks_are_their_severities.Goals as goal

pub returns : goal.returns
returns c = same_mask c.args.one c.args.other c.well_formed.0.0.1.1.0.1 c.well_formed.1.0.0.1.1.0.1
