use Rattle.std.proofs.Common.{◌≡◌, ◌∙◌, sym, ap, subst}
use Rattle.std.specs.Prelude.{Ok}
use Rattle.std.specs.Result.{result_ok}
use Rattle.std.specs.Str.{IsAscii}
use Rattle.std.proofs.lemmas.Str.{IsUtf8-from_ascii}
use Rattle.std.proofs.lemmas.Fmt.{IsAscii-decimal, parse-decimal}
use Rattle.archive_proof.proofs.reading.value.Goals as goal

pub returns-in-Ok : goal.returns-in-Ok
returns-in-Ok c =
    λ n small is.
    let parsed : c.parse.result ≡ Ok n =
    parse-decimal 64 n c.in-Ok.text.now c.parse.result small small (c.in-Ok.ensures.cases.0 ∙ is)
    c.parse.ensures.value.0 in
    c.ok.ensures.value ∙ ap result_ok parsed

pub returns-in-Err : goal.returns-in-Err
returns-in-Err c =
    λ n small is.
    absurd (c.in-Err.ensures.cases.0 (IsUtf8-from_ascii c.args.digits.now
    (subst IsAscii (sym is) (IsAscii-decimal n small))))
