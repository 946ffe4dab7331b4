use Rattle.std.proofs.Common.{map, ◌∙◌, sym, refl, inr}
use Rattle.clap.specs.Simple.{app_of}
use Rattle.command_line.proofs.LineLemmas.{answer_asked, answer_err, answer_ok, answer_refused, collect_err, collect_ok}
use Rattle.command_line.proofs.LineLemmas.{refused_is_none}
use Rattle.command_line.proofs.collecting.collect_words.Goals as goal

pub returns-in-Ok-try_get_matches_from-clause-ok : goal.returns-in-Ok-try_get_matches_from-clause-ok
returns-in-Ok-try_get_matches_from-clause-ok g c =
    let words = map g.S.AsStr.text c.args.words.now in
    let arm = c.in-Ok-try_get_matches_from in
    answer_ok words c.collect_of_matches.result
    (collect_ok words (app_of c.in-Ok.line) arm.matches c.in-Ok.ensures arm.ensures.matches arm.ensures.kinds
    ∙ sym c.collect_of_matches.ensures)

pub returns-in-Ok-try_get_matches_from-clause-err : goal.returns-in-Ok-try_get_matches_from-clause-err
returns-in-Ok-try_get_matches_from-clause-err g c =
    let words = map g.S.AsStr.text c.args.words.now in
    let arm = c.in-Ok-try_get_matches_from in
    answer_err words c.collect_of_matches.result
    (collect_ok words (app_of c.in-Ok.line) arm.matches c.in-Ok.ensures arm.ensures.matches arm.ensures.kinds
    ∙ sym c.collect_of_matches.ensures)

pub returns-in-Ok-try_get_matches_from-clause-asked : goal.returns-in-Ok-try_get_matches_from-clause-asked
returns-in-Ok-try_get_matches_from-clause-asked g c =
    let words = map g.S.AsStr.text c.args.words.now in
    let arm = c.in-Ok-try_get_matches_from in
    answer_asked words c.collect_of_matches.result
    (collect_ok words (app_of c.in-Ok.line) arm.matches c.in-Ok.ensures arm.ensures.matches arm.ensures.kinds
    ∙ sym c.collect_of_matches.ensures)

pub returns-in-Ok-try_get_matches_from-clause-refused : goal.returns-in-Ok-try_get_matches_from-clause-refused
returns-in-Ok-try_get_matches_from-clause-refused g c =
    let words = map g.S.AsStr.text c.args.words.now in
    let arm = c.in-Ok-try_get_matches_from in
    answer_refused words c.collect_of_matches.result
    (collect_ok words (app_of c.in-Ok.line) arm.matches c.in-Ok.ensures arm.ensures.matches arm.ensures.kinds
    ∙ sym c.collect_of_matches.ensures)

pub returns : goal.returns
returns g c =
    let words = map g.S.AsStr.text c.args.words.now in
    let refused =
    collect_err words (app_of c.in-Ok.line) c.in-Err.error c.in-Ok.ensures c.in-Err.ensures.kinds
    (λ e. c.in_default-kind.not-OutOfMemory (c.kind.ensures ∙ e)) in
    record { ok = tt; err = inr (refl, refused); asked = tt; refused = λ _. refused_is_none words refused }
