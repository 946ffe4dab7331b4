use Rattle.syslog_fields.proofs.LaneRuns.{same_octet}
use Rattle.syslog_fields.proofs.near.near_octet.Goals as goal

pub returns : goal.returns
returns c = same_octet c.args.octet c.args.octets.now c.near_either.result c.near_either.ensures
