use Rattle.std.proofs.lemmas.Result.{err_from_is_err_and}
use Rattle.syslog_fields.proofs.Fractions.{bad_clock, bad_date, bad_octet}
use Rattle.syslog_fields.proofs.timestamp.read_date_and_clock.Goals as goal

pub returns-in_err-date : goal.returns-in_err-date
returns-in_err-date c =
    let p = err_from_is_err_and c.from_residual.result c.from_residual.ensures.1 in
    rw (p.1, p.2) (bad_date _ _ c.in_err-date.ensures)

pub returns-in_err-rest : goal.returns-in_err-rest
returns-in_err-rest c =
    let p = err_from_is_err_and c.from_residual-in_err-rest.result c.from_residual-in_err-rest.ensures.1 in
    rw (p.1, p.2) (bad_octet _ c.in_ok-date.rest.now c.in_ok-date.date _ c.in_ok-date.ensures c.in_err-rest.ensures)

pub returns-in_err-clock : goal.returns-in_err-clock
returns-in_err-clock c =
    let p = err_from_is_err_and c.from_residual-in_err-clock.result c.from_residual-in_err-clock.ensures.1 in
    rw (p.1, p.2) (bad_clock _ c.in_ok-date.rest.now c.in_ok-rest.rest.now c.in_ok-date.date _ c.in_ok-date.ensures
    c.in_ok-rest.ensures c.in_err-clock.ensures)

pub returns : goal.returns
returns c = (c.in_ok-date.rest.now, c.in_ok-rest.rest.now, c.in_ok-date.ensures, c.in_ok-rest.ensures, c.in_ok-clock.ensures)
