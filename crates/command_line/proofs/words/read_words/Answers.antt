use Rattle.std.proofs.Common.{map, ◌∙◌, ap, sym}
use Rattle.std.specs.Prelude.{Result, option_map}
use Rattle.std.specs.Result.{result_ok}
use Rattle.clap.specs.Simple.{app_of}
use Rattle.option_values.specs.declared.option_row.Refusal.{Refusal}
use Rattle.command_line.specs.Requests.{asked_by}
use Rattle.command_line.specs.declared.request.Request.{Request}
use Rattle.command_line.proofs.LineLemmas.{answers_err, answers_refused, parsed_ok, quiet_ok}
use Rattle.command_line.proofs.words.read_words.Goals as goal

pub returns-in-Ok-Ok-clause-ok : goal.returns-in-Ok-Ok-clause-ok
returns-in-Ok-Ok-clause-ok g c =
    parsed_ok (map g.S.AsStr.text c.args.words.now) (app_of c.in_ok-line.line) c.in-Ok.matches c.in_ok-line.ensures
    c.in-Ok.ensures.matches c.in-Ok.ensures.kinds ∙ sym c.in-Ok-Ok.ensures
    ∙ ap (λ (r : Result Request Refusal). option_map asked_by (result_ok r)) c.in-Ok-Ok.field-0-is

pub returns-in-Ok-Ok-clause-quiet : goal.returns-in-Ok-Ok-clause-quiet
returns-in-Ok-Ok-clause-quiet g c =
    c.is_quiet.ensures
    ∙ sym (quiet_ok (map g.S.AsStr.text c.args.words.now) (app_of c.in_ok-line.line) c.in-Ok.matches c.in_ok-line.ensures
    c.in-Ok.ensures.matches c.in-Ok.ensures.kinds)

pub returns-in-Ok-Err-clause-err : goal.returns-in-Ok-Err-clause-err
returns-in-Ok-Err-clause-err g c =
    answers_refused (map g.S.AsStr.text c.args.words.now) (app_of c.in_ok-line.line) c.unknown.result c.in_ok-line.ensures
    c.in-Ok.ensures.kinds
    (parsed_ok (map g.S.AsStr.text c.args.words.now) (app_of c.in_ok-line.line) c.in-Ok.matches c.in_ok-line.ensures
    c.in-Ok.ensures.matches c.in-Ok.ensures.kinds ∙ sym c.in-Ok-Err.ensures
    ∙ ap (λ (r : Result Request Refusal). option_map asked_by (result_ok r)) c.in-Ok-Err.field-0-is)
    c.unknown.ensures

pub returns-clause-err : goal.returns-clause-err
returns-clause-err g c =
    answers_err (map g.S.AsStr.text c.args.words.now) (app_of c.in_ok-line.line) c.in-Err.error c.unmatched.result
    c.in_ok-line.ensures c.in-Err.ensures.kinds c.unmatched.ensures
