use Rattle.std.proofs.Common.{ℕ, ◌+◌, ◌-◌, ◌≤◌, length, ap, arith, inr, ◌∙◌}
use Rattle.octet_language.specs.Language.{Each}
use Rattle.syslog_fields.specs.Grammar.{Element}
use Rattle.syslog_reading.specs.ViewParts.{view_parts}
use Rattle.c_library.specs.Faults.{plain_fault}
use Rattle.c_library.proofs.Finding.{id_lies, params_lie, rest_within, spelled}
use Rattle.c_library.proofs.Laying.{lies_room}
use Rattle.c_library.proofs.element.find_element.Goals as goal

pub returns-in-Err-from_element : goal.returns-in-Err-from_element
returns-in-Err-from_element c =
    let b = c.args.octets.now in
    let seen = c.in-Ok.ensures.whole in
    let es = seen.0.elements in
    let text = c.elements_text-text.result.now in
    let each : Each Element es text = c.elements_text-text.ensures.elements es seen.4.elements in
    let few = c.in-Err-from_element.ensures es each in
    inr (
      seen.0,
      spelled b (view_parts c.in-Ok.shown) (omega (arith, c.if-octets-gt-ENTRY_MAX.false)) seen,
      omega (arith, few.0, few.1),
      c.new.ensures ∙ ap (λ (k : ℕ). plain_fault 13 k) few.0,
    )

pub overflow_sub-id_at : goal.overflow_sub-id_at
overflow_sub-id_at c =
    let b = c.args.octets.now in
    let seen = c.in-Ok.ensures.whole in
    let es = seen.0.elements in
    let text = c.elements_text-text.result.now in
    let each : Each Element es text = c.elements_text-text.ensures.elements es seen.4.elements in
    let from = c.in-Ok-from_element.ensures es each in
    rest_within text c.in-Ok-from_element.rest.now from.4.0 from.4.1

pub overflow_add-result : goal.overflow_add-result
overflow_add-result c =
    let b = c.args.octets.now in
    let seen = c.in-Ok.ensures.whole in
    let es = seen.0.elements in
    let text = c.elements_text-text.result.now in
    let each : Each Element es text = c.elements_text-text.ensures.elements es seen.4.elements in
    let rest = c.in-Ok-from_element.rest.now in
    let from = c.in-Ok-from_element.ensures es each in
    let k = from.3 in
    let split = c.split_element.ensures from.0 k.1 (k.0, k.2, k.3) in
    let spelling = (view_parts c.in-Ok.shown).elements in
    let at = c.layout_of.result.structured_data in
    let lies = id_lies b spelling text rest from.4.0 c.elements_text-text.ensures.front.0 c.split_element.result.0.now
    c.split_element.result.1.now split.behind at c.layout_of.ensures.structured_data
    c.elements_text-text.ensures.front.1 from.4.1 split.parts in
    let room : at + (length text - length rest) + 1 + length c.split_element.result.0.now ≤ length b =
    lies_room b c.split_element.result.0.now _ lies in
    omega (arith, room)

pub returns : goal.returns
returns c =
    let b = c.args.octets.now in
    let seen = c.in-Ok.ensures.whole in
    let es = seen.0.elements in
    let text = c.elements_text-text.result.now in
    let each : Each Element es text = c.elements_text-text.ensures.elements es seen.4.elements in
    let rest = c.in-Ok-from_element.rest.now in
    let from = c.in-Ok-from_element.ensures es each in
    let k = from.3 in
    let split = c.split_element.ensures from.0 k.1 (k.0, k.2, k.3) in
    let spelling = (view_parts c.in-Ok.shown).elements in
    let at = c.layout_of.result.structured_data in
    record {
      parts = seen.0;
      spells = spelled b (view_parts c.in-Ok.shown) (omega (arith, c.if-octets-gt-ENTRY_MAX.false)) seen;
      element = from.0;
      number = from.2;
      id_is = split.id_is;
      id_lies = id_lies b spelling text rest from.4.0 c.elements_text-text.ensures.front.0 c.split_element.result.0.now
          c.split_element.result.1.now split.behind at c.layout_of.ensures.structured_data
          c.elements_text-text.ensures.front.1 from.4.1 split.parts;
      params_are = split.params_are;
      params_lie = params_lie b spelling text rest from.4.0 c.elements_text-text.ensures.front.0
          c.split_element.result.0.now c.split_element.result.1.now split.behind at
          c.layout_of.ensures.structured_data c.elements_text-text.ensures.front.1 from.4.1 split.parts;
    }
