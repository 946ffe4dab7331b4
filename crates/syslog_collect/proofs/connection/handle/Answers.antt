use Rattle.std.proofs.Common.{arith}
use Rattle.std.proofs.lemmas.Result.{IfOk-weaker}
use Rattle.syslog_collect.proofs.OneReading.{outcome_of_octets}
use Rattle.syslog_collect.proofs.connection.handle.Goals as goal

pub returns-clause-outcome : goal.returns-clause-outcome
returns-clause-outcome g c =
    let few = c.if-frame-gt-FRAME_MAX.false in
    IfOk-weaker c.handle_octets.result _ _
    (λ o is. outcome_of_octets c.args.reading (g.S.Store.entries c.args.store.now) _ c.args.frame.now
    c.octets.result.now
    o few (omega (arith, few, c.octets.ensures.within)) c.octets.ensures.value is)
    c.handle_octets.ensures.outcome
