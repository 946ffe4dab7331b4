use Rattle.std.proofs.Common.{IsTrue, List, ℕ, [], ap, ◌∙◌}
use Rattle.std.specs.Prelude.{◌≢◌}
use Rattle.std.proofs.lemmas.Result.{err_from_is_err_and}
use Rattle.archive_digest.specs.Digests.{line_with}
use Rattle.archive_digest.proofs.Endings.{both_lines, first_line_fails}
use Rattle.archive_digest.proofs.digesting.Digesting.put_ending.Goals as goal

pub returns-in_err-put_line-clause-puts : goal.returns-in_err-put_line-clause-puts
returns-in_err-put_line-clause-puts g c = λ roots xs latest alike h.
    let p = err_from_is_err_and c.from_residual.result c.from_residual.ensures.1 in
    let line = c.in_err-put_line.ensures.line roots latest (c.latest.ensures roots xs latest h)
    ∙ ap (λ (n : List ℕ). line_with roots n latest) c.octets.ensures in
    let some : latest ≢ [] = λ none.
    (let on : IsTrue c.is_empty.result = (c.is_empty.ensures roots xs latest h).1 (alike.1 none) in absurd cc) in
    rw (p.1, p.2) (first_line_fails roots _ _ _ c.args.self.now.name _ xs latest _ some line
    c.in_err-put_line.ensures.puts)

pub returns-clause-puts : goal.returns-clause-puts
returns-clause-puts g c = λ roots xs latest alike h.
    let line = c.in_ok-put_line.ensures.line roots latest (c.latest.ensures roots xs latest h)
    ∙ ap (λ (n : List ℕ). line_with roots n latest) c.octets.ensures in
    let some : latest ≢ [] = λ none.
    (let on : IsTrue c.is_empty.result = (c.is_empty.ensures roots xs latest h).1 (alike.1 none) in absurd cc) in
    both_lines roots _ _ _ _ _ _ _ c.args.self.now.name _ _ xs latest some line
    (c.put_line-3.ensures.line roots xs h.all)
    c.in_ok-put_line.ensures.puts c.put_line-3.ensures.puts
