use Rattle.std.proofs.Common.{arith, ◌∙◌, ap, length, sym}
use Rattle.std.proofs.lemmas.Bool.{false≢true}
use Rattle.syslog_reading.specs.Views.{param_span}
use Rattle.record_json.proofs.DataParts.{params_end, params_more, params_none}
use Rattle.record_json.proofs.data.put_params.Goals as goal

pub loop-rest-init : goal.loop-rest-init
loop-rest-init c = record { written = params_none c.args.octets.now c.args.out.now.items; within = omega arith }

pub loop-rest-preserved : goal.loop-rest-preserved
loop-rest-preserved c =
    let first = c.begins_with.ensures.mark c.loop-rest-test.true in
    record {
      written =
          params_more c.args.octets.now c.loop-rest.rest.now c.first_param.result.1.now first.0 c.loop-rest.later
          c.args.out.now.items c.loop-rest.out.items c.put_param.new.out.items (param_span c.first_param.result.0)
          first.1 c.first_param.ensures.param c.in_ok-put_param.ensures c.loop-rest.invariant.written;
      within =
          omega (arith, c.loop-rest.invariant.within, c.first_param.ensures.less (omega (arith, ap length first.1)));
    }

pub returns-clause-form : goal.returns-clause-form
returns-clause-form c =
    params_end c.args.octets.now c.loop-rest.rest.now c.behind_first.result.now c.loop-rest.later c.args.out.now.items
    c.loop-rest.out.items c.put.new.out.items
    (c.begins_with.ensures.other (λ e. false≢true (sym c.loop-rest-test.false ∙ e))) c.behind_first.ensures
    c.loop-rest.invariant.written c.in_ok-put.ensures
