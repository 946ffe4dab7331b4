use Rattle.std.proofs.Common.{◌≡◌, ◌∙◌, rules, ◌+◌, ℕ, List, [], ap, arith, drop, get_or, length, Bor}
use Rattle.std.specs.Prelude.{option_map}
use Rattle.std.proofs.lemmas.Result.{err_from_is_err_and}
use Rattle.syslog_fields.specs.Appending.{Anything}
use Rattle.syslog_grammar.specs.Sorting.{IsTextOf, TextForm}
use Rattle.syslog_fields.proofs.Appends.{adds_some}
use Rattle.syslog_grammar.proofs.Sorting.{of_text, written_none, written_begun, written_more, written_end}
use Rattle.syslog_grammar.proofs.Sorting.{none_left}
use Rattle.syslog_grammar.proofs.few_elements.put_texts.Goals as goal
use Rattle.syslog_reading.proofs.IdTables.{drop_next}

pub loop-i-init : goal.loop-i-init
loop-i-init c = written_none (IsTextOf c.args.is_form) c.args.texts.now c.args.out.now.items

pub returns-then-not-is_above : goal.returns-then-not-is_above
returns-then-not-is_above c = (
  written_begun (IsTextOf c.args.is_form) c.args.texts.now (drop c.loop-i.i c.args.texts.now)
      (option_map (λ s. s.now) c.loop-i.greatest) c.args.out.now.items c.loop-i.out.items c.loop-i.invariant,
  tt,
)

pub returns-in_err-put_text : goal.returns-in_err-put_text
returns-in_err-put_text c =
    let p = err_from_is_err_and c.from_residual.result c.from_residual.ensures.1 in
    rw p.1 (adds_some Anything Anything c.args.out.now.items c.loop-i.out.items c.put_text.new.out.items
    (written_begun (IsTextOf c.args.is_form) c.args.texts.now (drop c.loop-i.i c.args.texts.now)
    (option_map (λ s. s.now) c.loop-i.greatest) c.args.out.now.items c.loop-i.out.items c.loop-i.invariant)
    c.in_err-put_text.ensures)

pub loop-i-preserved : goal.loop-i-preserved
loop-i-preserved c =
    let none : Bor (List ℕ) = record { ref_ptr = (0, 0); now = [] } in
    let text : Bor (List ℕ) = get_or c.args.texts.now c.loop-i.i none in
    written_more (IsTextOf c.args.is_form) c.args.texts.now (drop c.loop-i.i c.args.texts.now)
    (drop (c.loop-i.i + 1) c.args.texts.now) text c.first_id-id.result.now (TextForm c.args.is_form text.now)
    c.args.out.now.items c.loop-i.out.items c.put_text.new.out.items (option_map (λ s. s.now) c.loop-i.greatest)
    (drop_next c.args.texts.now c.loop-i.i none c.loop-i-test.true)
    (of_text c.args.is_form c.first_id-id.result.now text c.first_id-id.ensures)
    (c.is_above.ensures.above (search rules)) c.in_ok-put_text.ensures c.loop-i.invariant

pub returns : goal.returns
returns c =
    let whole : c.loop-i.i ≡ length c.args.texts.now = omega (arith, c.loop-i-test.false, c.loop-i.auto.i-end) in
    let none : drop c.loop-i.i c.args.texts.now ≡ [] =
    ap (λ (n : ℕ). drop n c.args.texts.now) whole ∙ none_left c.args.texts.now in
    written_end (IsTextOf c.args.is_form) c.args.texts.now (drop c.loop-i.i c.args.texts.now)
    (option_map (λ s. s.now) c.loop-i.greatest) c.args.out.now.items c.loop-i.out.items none c.loop-i.invariant
