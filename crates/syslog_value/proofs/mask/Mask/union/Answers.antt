use Rattle.syslog_value.specs.Severities.{severity_code}
use Rattle.syslog_value.proofs.Masks.{set_in_union}
use Rattle.syslog_value.proofs.mask.Mask.union.Goals as goal

pub returns : goal.returns
returns c = λ s. rw (← c.self.view_is, ← c.other.view_is)
    (set_in_union c.self.inside.bits c.other.inside.bits (severity_code s))
