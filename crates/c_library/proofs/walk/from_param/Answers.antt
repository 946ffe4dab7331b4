use Rattle.std.proofs.Common.{arith}
use Rattle.syslog_fields.specs.Grammar.{Param}
use Rattle.syslog_fields.specs.Spans.{SpannedParam}
use Rattle.syslog_fields.proofs.ParamTexts.{IsPrefixFree-param, param_some, spanned_param}
use Rattle.syslog_reading.specs.Views.{param_span}
use Rattle.c_library.proofs.Walking.{walked_few, walked_more, walked_none, walked_to}
use Rattle.c_library.proofs.walk.from_param.Goals as goal

pub loop-first-init : goal.loop-first-init
loop-first-init c = (walked_none Param c.args.text.now, omega arith)

pub returns-then-passed-n : goal.returns-then-passed-n
returns-then-passed-n c = walked_to Param c.args.text.now c.loop-first.rest.now c.in-Some._after.now c.in-Some._first
    c.loop-first.passed c.args.n c.in-Some.ensures c.if-passed-n.true c.loop-first.invariant.0

pub loop-first-preserved : goal.loop-first-preserved
loop-first-preserved c = (
  walked_more Param SpannedParam IsPrefixFree-param spanned_param c.args.text.now c.loop-first.rest.now
      c.first_param.result.1.now c.in-Some._after.now c.in-Some._first c.loop-first.passed
      (param_span c.first_param.result.0) c.in-Some.ensures c.first_param.ensures.param c.loop-first.invariant.0,
  omega (arith, c.loop-first.invariant.1, c.if-passed-n.false),
)

pub returns : goal.returns
returns c = walked_few Param param_some c.args.text.now c.loop-first.rest.now c.loop-first.passed c.args.n
    c.in_default.ensures c.loop-first.invariant.1 c.loop-first.invariant.0
