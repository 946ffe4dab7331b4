use Rattle.std.proofs.lemmas.Result.{err_from_is_err_and}
use Rattle.syslog_fields.proofs.Times.{bad_offset}
use Rattle.syslog_fields.proofs.timestamp.offset.Goals as goal

pub returns-in_err-hour-clause-reads : goal.returns-in_err-hour-clause-reads
returns-in_err-hour-clause-reads c =
    let p = err_from_is_err_and c.from_residual.result c.from_residual.ensures.1 in
    rw (p.1, p.2) (bad_offset _ _ c.in_err-hour.ensures)
