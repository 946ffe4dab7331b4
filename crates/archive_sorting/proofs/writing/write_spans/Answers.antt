use Rattle.std.proofs.Common.{[], append-nil}
use Rattle.std.proofs.lemmas.Result.{err_from_is_err_and}
use Rattle.octet_devices.proofs.Putting.{put_fails_within, puts_whole}
use Rattle.archive_sorting.proofs.writing.write_spans.Goals as goal

pub returns-in_err-put_spans : goal.returns-in_err-put_spans
returns-in_err-put_spans g c =
    let p = err_from_is_err_and c.from_residual.result c.from_residual.ensures.1 in
    rw (p.1, p.2) (put_fails_within _ _ _ _ [] _ _ c.new-held.ensures (append-nil _) c.requires
    c.in_err-put_spans.ensures)

pub returns : goal.returns
returns g c =
    puts_whole _ _ _ _ _ _ _ _ c.new-held.ensures c.requires c.in_ok-put_spans.ensures c.finish.ensures.finishes
