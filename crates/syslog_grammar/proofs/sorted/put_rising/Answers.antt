use Rattle.std.proofs.Common.{◌≡◌, ◌∙◌, rules, ◌+◌, ℕ, [], ap, arith, drop, length}
use Rattle.std.specs.Prelude.{option_map}
use Rattle.std.proofs.lemmas.Result.{err_from_is_err_and}
use Rattle.syslog_fields.specs.Appending.{Anything}
use Rattle.syslog_grammar.specs.Sorting.{FirstOf, IsKeyOf}
use Rattle.syslog_fields.proofs.Appends.{adds_some}
use Rattle.syslog_grammar.proofs.Sorting.{of_key, written_none, written_begun, written_more, written_end}
use Rattle.syslog_grammar.proofs.Sorting.{none_left}
use Rattle.syslog_grammar.proofs.sorted.put_rising.Goals as goal
use Rattle.syslog_reading.proofs.IdTables.{drop_next}

pub loop-i-init : goal.loop-i-init
loop-i-init c = written_none (IsKeyOf c.args.is_form c.args.elements.now) c.args.keys.now c.args.out.now.items

pub returns-then-not-is_above : goal.returns-then-not-is_above
returns-then-not-is_above c = (
  written_begun (IsKeyOf c.args.is_form c.args.elements.now) c.args.keys.now (drop c.loop-i.i c.args.keys.now)
      (option_map (λ s. s.now) c.loop-i.greatest) c.args.out.now.items c.loop-i.out.items c.loop-i.invariant,
  tt,
)

pub returns-in_err-put_first : goal.returns-in_err-put_first
returns-in_err-put_first c =
    let p = err_from_is_err_and c.from_residual.result c.from_residual.ensures.1 in
    rw p.1 (adds_some Anything Anything c.args.out.now.items c.loop-i.out.items c.put_first.new.out.items
    (written_begun (IsKeyOf c.args.is_form c.args.elements.now) c.args.keys.now (drop c.loop-i.i c.args.keys.now)
    (option_map (λ s. s.now) c.loop-i.greatest) c.args.out.now.items c.loop-i.out.items c.loop-i.invariant)
    c.in_err-put_first.ensures)

pub loop-i-preserved : goal.loop-i-preserved
loop-i-preserved c =
    written_more (IsKeyOf c.args.is_form c.args.elements.now) c.args.keys.now (drop c.loop-i.i c.args.keys.now)
    (drop (c.loop-i.i + 1) c.args.keys.now) _ c.first_id-id.result.now (FirstOf c.args.is_form c.in-Some.rest.now)
    c.args.out.now.items c.loop-i.out.items c.put_first.new.out.items (option_map (λ s. s.now) c.loop-i.greatest)
    (drop_next c.args.keys.now c.loop-i.i _ c.loop-i-test.true)
    (of_key c.args.is_form c.args.elements.now c.in-Some.rest.now c.first_id-id.result.now _
    (c.in-Some.ensures.cases.2 ∙ ap (λ (n : ℕ). drop n c.args.elements.now) c.offset_of.ensures) c.first_id-id.ensures)
    (c.is_above.ensures.above (search rules)) c.in_ok-put_first.ensures c.loop-i.invariant

pub returns : goal.returns
returns c =
    let whole : c.loop-i.i ≡ length c.args.keys.now = omega (arith, c.loop-i-test.false, c.loop-i.auto.i-end) in
    let none : drop c.loop-i.i c.args.keys.now ≡ [] =
    ap (λ (n : ℕ). drop n c.args.keys.now) whole ∙ none_left c.args.keys.now in
    written_end (IsKeyOf c.args.is_form c.args.elements.now) c.args.keys.now (drop c.loop-i.i c.args.keys.now)
    (option_map (λ s. s.now) c.loop-i.greatest) c.args.out.now.items c.loop-i.out.items none c.loop-i.invariant
