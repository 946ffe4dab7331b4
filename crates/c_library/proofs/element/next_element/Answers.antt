use Rattle.std.proofs.Common.{◌≡◌, ◌+◌, ◌∷◌, ◌++◌, length, ap, arith, ◌∙◌}
use Rattle.syslog_reading.specs.Views.{element_span}
use Rattle.c_library.proofs.Splitting.{behind_id, element_length, element_parts, params_taken, spanned_by}
use Rattle.c_library.proofs.element.next_element.Goals as goal

pub split_at-requires : goal.split_at-requires
split_at-requires c =
    let v = element_span c.first_element.result.0 in
    let behind = c.first_element.result.1.now in
    let follows = c.first_element.ensures.element c.requires.0 c.requires.1 in
    let n = element_length v.id v.params behind c.args.text.now (element_parts v c.args.text.now behind follows) in
    omega (arith, n, ap length c.id-id.ensures)

pub overflow_sub-from_params : goal.overflow_sub-from_params
overflow_sub-from_params c =
    let v = element_span c.first_element.result.0 in
    let behind = c.first_element.result.1.now in
    let follows = c.first_element.ensures.element c.requires.0 c.requires.1 in
    let n = element_length v.id v.params behind c.args.text.now (element_parts v c.args.text.now behind follows) in
    omega (arith, n, ap length c.id-id.ensures, c.split_at.ensures.back_len)

pub overflow_sub-from_params-2 : goal.overflow_sub-from_params-2
overflow_sub-from_params-2 c =
    let v = element_span c.first_element.result.0 in
    let behind = c.first_element.result.1.now in
    let follows = c.first_element.ensures.element c.requires.0 c.requires.1 in
    let n = element_length v.id v.params behind c.args.text.now (element_parts v c.args.text.now behind follows) in
    omega (arith, n, ap length c.id-id.ensures, c.split_at.ensures.back_len)

pub returns : goal.returns
returns c =
    let v = element_span c.first_element.result.0 in
    let text = c.args.text.now in
    let behind = c.first_element.result.1.now in
    let follows = c.first_element.ensures.element c.requires.0 c.requires.1 in
    let from : c.split_at.result.1.now ≡ v.params ++ 93 ∷ behind =
    c.split_at.ensures.back
    ∙ behind_id v.id v.params behind text (1 + length c.id-id.result.now)
    (element_parts v text behind follows) (omega (arith, ap length c.id-id.ensures)) in
    let params : c.split_at-2.result.0.now ≡ v.params =
    c.split_at-2.ensures.front ∙ params_taken v.params behind c.split_at.result.1.now _ from (omega arith) in
    spanned_by v c.id-id.result.now c.split_at-2.result.0.now text behind c.id-id.ensures params follows
