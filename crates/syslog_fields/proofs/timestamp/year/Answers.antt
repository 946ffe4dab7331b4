use Rattle.std.proofs.lemmas.Result.{err_from_is_err_and}
use Rattle.syslog_fields.proofs.Times.{bad_century, bad_year}
use Rattle.syslog_fields.proofs.timestamp.year.Goals as goal

pub returns-in_err-century : goal.returns-in_err-century
returns-in_err-century c =
    let p = err_from_is_err_and c.from_residual.result c.from_residual.ensures.1 in
    rw (p.1, p.2) (bad_century _ _ c.in_err-century.ensures)

pub returns-in_err-year : goal.returns-in_err-year
returns-in_err-year c =
    let p = err_from_is_err_and c.from_residual-in_err-year.result c.from_residual-in_err-year.ensures.1 in
    rw (p.1, p.2) (bad_year _ c.in_ok-century.rest.now c.in_ok-century.century _ c.in_ok-century.ensures
    c.in_err-year.ensures)
