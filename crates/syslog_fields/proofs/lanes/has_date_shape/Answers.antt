use Rattle.std.proofs.Common.{refl}
use Rattle.std.proofs.lemmas.Bool.{eqb-true}
use Rattle.syslog_fields.proofs.LaneRuns.{octets_between}
use Rattle.syslog_fields.specs.declared.lanes.TheConstants.{LEAST, MOST}
use Rattle.syslog_fields.proofs.lanes.has_date_shape.Goals as goal

pub returns : goal.returns
returns c = λ h. octets_between c.args.octets.now LEAST MOST c.requires refl refl (eqb-true _ _ h)
