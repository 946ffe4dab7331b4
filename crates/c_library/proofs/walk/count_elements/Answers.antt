use Rattle.std.proofs.Common.{ap, arith, length}
use Rattle.syslog_fields.specs.Grammar.{Element}
use Rattle.syslog_fields.specs.Spans.{SpannedElement}
use Rattle.syslog_fields.proofs.ParamTexts.{IsPrefixFree-element, element_some, spanned_element}
use Rattle.syslog_reading.specs.Views.{element_span}
use Rattle.c_library.proofs.Walking.{walked_all, walked_more, walked_none}
use Rattle.c_library.proofs.walk.count_elements.Goals as goal

pub loop-first-init : goal.loop-first-init
loop-first-init c = (walked_none Element c.args.text.now, omega arith)

pub loop-first-preserved : goal.loop-first-preserved
loop-first-preserved c = (
  walked_more Element SpannedElement IsPrefixFree-element spanned_element c.args.text.now c.loop-first.rest.now
      c.first_element.result.1.now c.in-Some._after.now c.in-Some._first c.loop-first.count
      (element_span c.first_element.result.0) c.in-Some.ensures c.first_element.ensures.element c.loop-first.invariant.0,
  omega (arith, c.loop-first.invariant.1, c.first_element.ensures.less (omega (arith, ap length c.in-Some.ensures))),
)

pub returns : goal.returns
returns c = walked_all Element element_some c.args.text.now c.loop-first.rest.now c.loop-first.count c.in_default.ensures
    c.loop-first.invariant.0
