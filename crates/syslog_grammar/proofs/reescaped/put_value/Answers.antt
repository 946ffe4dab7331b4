use Rattle.std.proofs.Common.{Bool, arith, subst}
use Rattle.syslog_grammar.proofs.FirstForms.{ValueWritten, fewer_left, value_end, value_more, value_none}
use Rattle.syslog_grammar.proofs.reescaped.put_value.Goals as goal

pub loop-is_last-init : goal.loop-is_last-init
loop-is_last-init c = record { written = value_none c.args.octets.now c.args.out.now.items; within = omega arith }

pub loop-is_last-preserved : goal.loop-is_last-preserved
loop-is_last-preserved c = record {
  written =
      value_more c.args.octets.now c.loop-is_last.rest.now c.behind_kept-ends.result.0.now c.split_at.result.0.now
      c.args.out.now.items c.loop-is_last.out.items c.put_run.new.out.items c.behind_kept-ends.result.1
      (subst (λ (b : Bool). ValueWritten c.args.octets.now c.loop-is_last.rest.now b c.args.out.now.items
      c.loop-is_last.out.items) c.loop-is_last-test.true c.loop-is_last.invariant.written)
      c.behind_kept-ends.ensures.kept c.split_at.ensures.front c.in_ok-put_run.ensures;
  within = omega (arith, c.loop-is_last.invariant.within, c.behind_kept-ends.ensures.most);
}

pub loop-is_last-smaller : goal.loop-is_last-smaller
loop-is_last-smaller c = rw c.loop-is_last-test.true
    (fewer_left c.behind_kept-ends.result.1 c.loop-is_last.rest.now c.behind_kept-ends.result.0.now
    c.behind_kept-ends.ensures.less)

pub returns : goal.returns
returns c = record {
  form = value_end c.args.octets.now c.loop-is_last.rest.now c.args.out.now.items c.loop-is_last.out.items
      (subst (λ (b : Bool). ValueWritten c.args.octets.now c.loop-is_last.rest.now b c.args.out.now.items
      c.loop-is_last.out.items) c.loop-is_last-test.false c.loop-is_last.invariant.written);
  most = c.loop-is_last.invariant.within;
}
