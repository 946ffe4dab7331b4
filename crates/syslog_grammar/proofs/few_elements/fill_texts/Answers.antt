use Rattle.std.proofs.Common.{arith, rules}
use Rattle.syslog_grammar.specs.Sorting.{IsTextOf}
use Rattle.syslog_reading.specs.Views.{element_span}
use Rattle.syslog_grammar.proofs.Sorting.{fills_none, fills_whole, texts_more}
use Rattle.syslog_grammar.proofs.few_elements.fill_texts.Goals as goal

pub loop-first-init : goal.loop-first-init
loop-first-init c = record {
  room = search rules;
  fills = fills_none IsTextOf c.args.elements.now c.args.texts.now;
}

pub loop-first-preserved : goal.loop-first-preserved
loop-first-preserved c = record {
  room = search rules;
  fills = texts_more c.args.elements.now c.loop-first.rest.now c.first_element.result.1.now c.in-Some._after.now
      c.in-Some._first c.loop-first.count c.split_at.result.0 c.loop-first.texts
      (element_span c.first_element.result.0) c.in-Some.ensures c.first_element.ensures.element
      c.split_at.ensures.front (omega arith) c.loop-first.invariant.fills;
}

pub returns : goal.returns
returns c = (
  c.loop-first.invariant.room,
  fills_whole IsTextOf c.args.elements.now c.loop-first.rest.now c.loop-first.count c.loop-first.texts
      c.in_default.ensures c.loop-first.invariant.fills,
)
