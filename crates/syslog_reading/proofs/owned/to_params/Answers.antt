use Rattle.std.proofs.Common.{sym, subst}
use Rattle.syslog_reading.specs.Views.{param_span}
use Rattle.syslog_reading.proofs.OwnedParts.{ParamsRead, params_all, params_more, params_end, params_spelled}
use Rattle.syslog_reading.proofs.owned.to_params.Goals as goal

pub loop-first-init : goal.loop-first-init
loop-first-init c = (
  subst (ParamsRead c.args.octets.now c.args.octets.now) (sym c.new-params.ensures.items)
      (params_all c.args.octets.now),
  c.requires,
)

pub to_param-requires : goal.to_param-requires
to_param-requires c =
    let one = params_spelled c.loop-first.rest.now c.first_param.result.1.now c.in-Some._after.now c.in-Some._first
    (param_span c.first_param.result.0) c.in-Some.ensures c.first_param.ensures.param c.loop-first.invariant.1 in
    record { name = one.0; value = one.1 }

pub loop-first-preserved : goal.loop-first-preserved
loop-first-preserved c = (
  params_more c.args.octets.now c.loop-first.rest.now c.first_param.result.1.now c.in-Some._after.now c.in-Some._first
      c.loop-first.params.items c.push.new.self.items (param_span c.first_param.result.0)
      c.in_ok-to_param.field-0 c.in-Some.ensures c.first_param.ensures.param c.in_ok-to_param.ensures
      c.in_ok-push.ensures.items c.loop-first.invariant.0,
  (params_spelled c.loop-first.rest.now c.first_param.result.1.now c.in-Some._after.now c.in-Some._first
      (param_span c.first_param.result.0) c.in-Some.ensures c.first_param.ensures.param c.loop-first.invariant.1).2,
)

pub returns : goal.returns
returns c = params_end c.args.octets.now c.loop-first.rest.now c.loop-first.params.items c.in_default.ensures
    c.loop-first.invariant.0
