use Rattle.std.proofs.Common.{[], ◌∷◌}
use Rattle.std.proofs.lemmas.Result.{err_from_is_err_and}
use Rattle.octet_devices.proofs.Putting.{put_fails_before, puts_then}
use Rattle.archive_digest.proofs.line.put_word.Goals as goal

pub returns-in_err-put : goal.returns-in_err-put
returns-in_err-put g c =
    let p = err_from_is_err_and c.from_residual.result c.from_residual.ensures.1 in
    rw (p.1, p.2) (put_fails_before _ _ _ (32 ∷ []) c.args.text.now _ c.in_err-put.ensures.puts)

pub returns : goal.returns
returns g c = puts_then _ _ _ _ _ _ _ (32 ∷ []) c.args.text.now c.in_ok-put.ensures.puts c.put-2.ensures.puts
