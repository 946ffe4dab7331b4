use Rattle.std.proofs.Common.{[], ◌∷◌, ◌++◌, refl}
use Rattle.std.proofs.lemmas.Result.{err_from_is_err_and}
use Rattle.octet_devices.proofs.Putting.{put_fails_before}
use Rattle.archive_text.proofs.Puts.{fails_at_second, puts_third}
use Rattle.archive_digest.proofs.line.put_last.Goals as goal

pub returns-in_err-put : goal.returns-in_err-put
returns-in_err-put g c =
    let p = err_from_is_err_and c.from_residual.result c.from_residual.ensures.1 in
    rw (p.1, p.2) (put_fails_before _ _ _ (32 ∷ []) (c.args.text.now ++ 10 ∷ []) _ c.in_err-put.ensures.puts)

pub returns-in_err-put-2 : goal.returns-in_err-put-2
returns-in_err-put-2 g c =
    let p = err_from_is_err_and c.from_residual-in_err-put-2.result c.from_residual-in_err-put-2.ensures.1 in
    rw (p.1, p.2) (fails_at_second _ _ _ _ _ _ (32 ∷ []) c.args.text.now (10 ∷ []) _ refl c.in_ok-put.ensures.puts
    c.in_err-put-2.ensures.puts)

pub returns : goal.returns
returns g c =
    puts_third _ _ _ _ _ _ _ _ _ _ (32 ∷ []) c.args.text.now (10 ∷ []) refl c.in_ok-put.ensures.puts
    c.in_ok-put-2.ensures.puts c.put-3.ensures.puts
