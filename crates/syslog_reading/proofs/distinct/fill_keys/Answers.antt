use Rattle.std.proofs.Common.{◌≡◌, ◌∙◌, ◌-◌, arith, length, rules, subst, sym, take}
use Rattle.syslog_reading.specs.IdKeys.{Offered, offset_of, offsets}
use Rattle.syslog_reading.specs.Views.{element_span}
use Rattle.syslog_reading.proofs.Sorted.{offered_more, offered_none, offsets_put}
use Rattle.syslog_reading.proofs.distinct.fill_keys.Goals as goal

pub loop-first-init : goal.loop-first-init
loop-first-init c = record {
  room = search rules;
  within = search rules;
  offered = offered_none c.args.elements.now;
}

pub loop-first-preserved : goal.loop-first-preserved
loop-first-preserved c =
    let here : offset_of c.key_of.result ≡ length c.args.elements.now - length c.loop-first.rest.now =
    c.key_of.ensures ∙ search rules in
    record {
      room = search rules;
      within = search rules;
      offered = subst (Offered c.args.elements.now c.first_element.result.1.now)
          (sym (offsets_put c.loop-first.keys c.loop-first.count c.key_of.result (omega arith)))
          (offered_more c.args.elements.now c.loop-first.rest.now c.first_element.result.1.now c.in-Some._after.now
          (offsets (take c.loop-first.count c.loop-first.keys)) c.in-Some._first (offset_of c.key_of.result)
          (element_span c.first_element.result.0) c.in-Some.ensures c.first_element.ensures.element
          c.first_element.ensures.suffix here c.loop-first.invariant.offered);
    }
