use Rattle.syslog_fields.proofs.Values.{escapes_more, no_escapes}
use Rattle.syslog_fields.proofs.backslash.behind_escapes.Goals as goal

pub loop-behind-init : goal.loop-behind-init
loop-behind-init c = no_escapes c.args.octets.now

pub loop-behind-preserved : goal.loop-behind-preserved
loop-behind-preserved c =
    let e = c.in-Some.ensures.escape in
    escapes_more c.args.octets.now c.loop-behind.rest.now c.in-Some.behind.now e.0 e.1 e.2 c.loop-behind.invariant
