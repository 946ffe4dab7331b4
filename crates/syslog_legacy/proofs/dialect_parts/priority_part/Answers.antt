use Rattle.syslog_legacy.proofs.Splitting.{no_priority_part}
use Rattle.syslog_legacy.proofs.dialect_parts.priority_part.Goals as goal

pub returns-in_default : goal.returns-in_default
returns-in_default c = no_priority_part c.args.clock.now.dialect c.args.octets.now c.in_default.ensures.none
