use Rattle.std.proofs.Common.{◌∷◌}
use Rattle.std.proofs.lemmas.Result.{err_from_is_err_and}
use Rattle.octet_devices.proofs.Putting.{put_fails_before, puts_then}
use Rattle.archive_digest.proofs.line.put_hashes.Goals as goal

pub returns-in_err-put_word : goal.returns-in_err-put_word
returns-in_err-put_word g c =
    let p = err_from_is_err_and c.from_residual.result c.from_residual.ensures.1 in
    rw (p.1, p.2) (put_fails_before _ _ _ (32 ∷ c.args.hash.now) _ _ c.in_err-put_word.ensures)

pub returns : goal.returns
returns g c =
    rw c.in-Some.is (puts_then _ _ _ _ _ _ _ (32 ∷ c.args.hash.now) _ c.in_ok-put_word.ensures c.put_last-2.ensures)
