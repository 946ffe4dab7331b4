use Rattle.std.proofs.Common.{sym, subst}
use Rattle.std.proofs.Math.Logic.{∥∥₁_map}
use Rattle.syslog_reading.specs.Views.{element_span}
use Rattle.syslog_reading.proofs.OwnedParts.{ElementsRead, data_spelled, elements_all, elements_more, elements_nil}
use Rattle.syslog_reading.proofs.OwnedParts.{elements_end, elements_spelled}
use Rattle.syslog_reading.proofs.owned.to_elements.Goals as goal

pub loop-first-init : goal.loop-first-init
loop-first-init c = (
  subst (ElementsRead c.args.octets.now c.args.octets.now) (sym c.new-elements.ensures.items)
      (elements_all c.args.octets.now),
  ∥∥₁_map c.requires (λ h. data_spelled c.args.octets.now h),
)

pub returns-then-first-ne91 : goal.returns-then-first-ne91
returns-then-first-ne91 c = elements_nil c.args.octets.now c.loop-first.rest.now c.in-Some._after.now c.in-Some.first
    c.loop-first.elements.items c.in-Some.ensures c.if-first-ne91.true c.loop-first.invariant.0

pub to_element-requires : goal.to_element-requires
to_element-requires c =
    let one = elements_spelled c.loop-first.rest.now c.first_element.result.1.now c.in-Some._after.now c.in-Some.first
    (element_span c.first_element.result.0) c.in-Some.ensures c.if-first-ne91.false c.first_element.ensures.element
    c.loop-first.invariant.1 in
    record { id = one.0; params = one.1 }

pub loop-first-preserved : goal.loop-first-preserved
loop-first-preserved c = (
  elements_more c.args.octets.now c.loop-first.rest.now c.first_element.result.1.now c.in-Some._after.now
      c.in-Some.first c.loop-first.elements.items c.push.new.self.items (element_span c.first_element.result.0)
      c.in_ok-to_element.field-0 c.in-Some.ensures c.if-first-ne91.false c.first_element.ensures.element
      c.in_ok-to_element.ensures c.in_ok-push.ensures.items c.loop-first.invariant.0,
  (elements_spelled c.loop-first.rest.now c.first_element.result.1.now c.in-Some._after.now c.in-Some.first
      (element_span c.first_element.result.0) c.in-Some.ensures c.if-first-ne91.false
      c.first_element.ensures.element c.loop-first.invariant.1).2,
)

pub returns : goal.returns
returns c = elements_end c.args.octets.now c.loop-first.rest.now c.loop-first.elements.items c.in_default.ensures
    c.loop-first.invariant.0
