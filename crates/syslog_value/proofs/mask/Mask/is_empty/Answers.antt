use Rattle.syslog_value.proofs.Masks.{is_empty_mask}
use Rattle.syslog_value.proofs.mask.Mask.is_empty.Goals as goal

pub returns : goal.returns
returns c = rw (← c.self.view_is) (is_empty_mask c.self.inside.bits c.self.invariant)
