use Rattle.std.proofs.Common.{arith, ◌∙◌, ap, length, sym}
use Rattle.std.proofs.lemmas.Bool.{false≢true}
use Rattle.syslog_grammar.proofs.FirstForms.{params_end, params_more, params_none}
use Rattle.syslog_grammar.proofs.reescaped.put_params.Goals as goal

pub loop-out-init : goal.loop-out-init
loop-out-init c = record { written = params_none c.args.octets.now c.args.out.now.items; within = omega arith }

pub loop-out-preserved : goal.loop-out-preserved
loop-out-preserved c =
    let first = c.begins_with.ensures.mark c.loop-out-test.true in
    record {
      written =
          params_more c.args.octets.now c.loop-out.rest.now c.in_ok-rest.rest.now first.0 c.args.out.now.items
          c.loop-out.out.items c.put_param.new.out.items first.1 c.in_ok-rest.ensures.form
          c.loop-out.invariant.written;
      within =
          omega (arith, c.loop-out.invariant.within, c.in_ok-rest.ensures.less (omega (arith, ap length first.1)));
    }

pub returns-clause-form : goal.returns-clause-form
returns-clause-form c =
    params_end c.args.octets.now c.loop-out.rest.now c.behind_first.result.now c.args.out.now.items
    c.loop-out.out.items c.put.new.out.items
    (c.begins_with.ensures.other (λ e. false≢true (sym c.loop-out-test.false ∙ e))) c.behind_first.ensures
    c.loop-out.invariant.written c.in_ok-put.ensures
