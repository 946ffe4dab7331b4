use Rattle.std.proofs.Common.{ap, arith, length}
use Rattle.syslog_fields.specs.Grammar.{Param}
use Rattle.syslog_fields.specs.Spans.{SpannedParam}
use Rattle.syslog_fields.proofs.ParamTexts.{IsPrefixFree-param, param_some, spanned_param}
use Rattle.syslog_reading.specs.Views.{param_span}
use Rattle.c_library.proofs.Walking.{walked_all, walked_more, walked_none}
use Rattle.c_library.proofs.walk.count_params.Goals as goal

pub loop-first-init : goal.loop-first-init
loop-first-init c = (walked_none Param c.args.text.now, omega arith)

pub loop-first-preserved : goal.loop-first-preserved
loop-first-preserved c = (
  walked_more Param SpannedParam IsPrefixFree-param spanned_param c.args.text.now c.loop-first.rest.now
      c.first_param.result.1.now c.in-Some._after.now c.in-Some._first c.loop-first.count
      (param_span c.first_param.result.0) c.in-Some.ensures c.first_param.ensures.param c.loop-first.invariant.0,
  omega (arith, c.loop-first.invariant.1, c.first_param.ensures.less (omega (arith, ap length c.in-Some.ensures))),
)

pub returns : goal.returns
returns c = walked_all Param param_some c.args.text.now c.loop-first.rest.now c.loop-first.count c.in_default.ensures
    c.loop-first.invariant.0
