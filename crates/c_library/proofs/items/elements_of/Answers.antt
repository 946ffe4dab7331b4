use Rattle.std.proofs.Common.{◌≡◌, ◌++◌, ◌+◌, ◌*◌, ◌≤◌, List, ap, drop, length, subst, sym, ◌∙◌}
use Rattle.std.specs.List.{AllByRecursion, flat_map}
use Rattle.syslog_value.specs.Parts.{ElementParts, IsElement}
use Rattle.c_library.specs.DataItems.{HasNoName, IsElementBad, IsItemsFault, TakesElement, element_items, pairs}
use Rattle.c_library.specs.declared.items.SyslogboxItem.{SyslogboxItem}
use Rattle.c_library.proofs.Itemizing.{elements_more, items_refused, lent, passed, pushed}
use Rattle.c_library.proofs.items.elements_of.Goals as goal

pub returns-in_err-element : goal.returns-in_err-element
returns-in_err-element c =
    let items = c.args.items.now in
    let at = c.elements.at in
    let fault = c.in_err-element.field-0.0 in
    let bad =
    subst (λ (xs : List SyslogboxItem). IsItemsFault (IsElementBad (pairs xs)) fault) (lent items at)
    c.in_err-element.ensures in
    let whole =
    items_refused (pairs items) (pairs (drop at items)) fault c.elements.elements.items c.elements.invariant.1
    c.elements.invariant.2 c.elements.invariant.3 bad in
    passed c.from_residual.result _ _ fault c.from_residual.ensures whole

pub elements-preserved : goal.elements-preserved
elements-preserved c =
    let items = c.args.items.now in
    let at = c.elements.at in
    let next =
    subst (λ (xs : List SyslogboxItem). TakesElement (pairs xs) c.in-Some.element) (lent items at)
    (rw c.in-Some.is at c.in_ok-element.ensures) in
    let n = length c.params.result.now in
    let more =
    elements_more items at n c.elements.elements.items c.in-Some.element c.elements.invariant.0
    c.elements.invariant.1 c.elements.invariant.2 next (ap length c.params.ensures) in
    let new = pushed c.push.result _ _ c.in-Some.element c.push.ensures.items (sym c.is_err.ensures.value ∙ c.if-is_err.false) in
    subst (λ (es : List ElementParts). (at + (1 + 2 * n) ≤ length items) × AllByRecursion IsElement es
    × (pairs items ≡ flat_map element_items es ++ pairs (drop (at + (1 + 2 * n)) items))
    × HasNoName es (pairs (drop (at + (1 + 2 * n)) items)))
    (sym new) more
