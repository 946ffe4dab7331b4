use Rattle.std.proofs.Common.{[], ◌++◌, ◌∙◌, ap, arith, refl, rules, sym, append_assoc}
use Rattle.syslog_grammar.specs.Sorting.{IsKeyOf}
use Rattle.syslog_reading.specs.Views.{element_span}
use Rattle.syslog_grammar.proofs.Sorting.{fills_none, keys_more, fills_whole}
use Rattle.syslog_grammar.proofs.sorted.fill_keys.Goals as goal

pub loop-first-init : goal.loop-first-init
loop-first-init c = record {
  room = search rules;
  suffix = ([], refl);
  fills = fills_none (λ a. IsKeyOf a c.args.elements.now) c.args.elements.now c.args.keys.now;
}

pub loop-first-preserved : goal.loop-first-preserved
loop-first-preserved c = record {
  room = search rules;
  suffix = (
    c.loop-first.invariant.suffix.0 ++ c.first_element.ensures.suffix.0,
    c.loop-first.invariant.suffix.1
        ∙ ap (λ u. c.loop-first.invariant.suffix.0 ++ u) c.first_element.ensures.suffix.1
        ∙ sym (append_assoc c.loop-first.invariant.suffix.0 c.first_element.ensures.suffix.0
        c.first_element.result.1.now),
  );
  fills = keys_more c.args.elements.now c.loop-first.rest.now c.first_element.result.1.now c.in-Some._after.now
      c.loop-first.invariant.suffix.0 c.in-Some._first c.loop-first.count c.key_of.result c.loop-first.keys
      (element_span c.first_element.result.0) c.in-Some.ensures c.first_element.ensures.element
      c.loop-first.invariant.suffix.1 c.key_of.ensures (omega arith) c.loop-first.invariant.fills;
}

pub returns : goal.returns
returns c = (
  c.loop-first.invariant.room,
  fills_whole (λ a. IsKeyOf a c.args.elements.now) c.args.elements.now c.loop-first.rest.now c.loop-first.count
      c.loop-first.keys c.in_default.ensures c.loop-first.invariant.fills,
)
