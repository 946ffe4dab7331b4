use Rattle.std.proofs.Common.{subst}
use Rattle.std.proofs.lemmas.Result.{err_from_is_err_and}
use Rattle.octet_language.specs.Reading.{Follows}
use Rattle.syslog_fields.specs.Time.{Two}
use Rattle.syslog_fields.proofs.Times.{bad_year_month, bad_nil, bad_day, date_read}
use Rattle.syslog_fields.proofs.timestamp.read_date.Goals as goal

pub returns-in_err-year : goal.returns-in_err-year
returns-in_err-year c =
    let p = err_from_is_err_and c.from_residual.result c.from_residual.ensures.1 in
    rw (p.1, p.2) (bad_year_month _ _ c.in_err-year.ensures)

pub returns-in_err-rest : goal.returns-in_err-rest
returns-in_err-rest c =
    let p = err_from_is_err_and c.from_residual-in_err-rest.result c.from_residual-in_err-rest.ensures.1 in
    rw (p.1, p.2) (bad_nil _ c.in_ok-year.rest.now (c.in_ok-year.year, c.in_ok-year.month) _ c.in_ok-year.ensures
    c.in_err-rest.ensures)

pub returns-in_err-day : goal.returns-in_err-day
returns-in_err-day c =
    let p = err_from_is_err_and c.from_residual-in_err-day.result c.from_residual-in_err-day.ensures.1 in
    rw (p.1, p.2) (bad_day _ c.in_ok-year.rest.now c.in_ok-rest.rest.now (c.in_ok-year.year, c.in_ok-year.month)
    c.last_day.result _ c.last_day.ensures.value c.in_ok-year.ensures c.in_ok-rest.ensures c.in_err-day.ensures)

pub returns : goal.returns
returns c =
    date_read c.args.octets.now c.in_ok-year.rest.now c.in_ok-rest.rest.now c.in_ok-day.rest.now c.in_ok-year.year
    c.in_ok-year.month c.in_ok-day.day c.in_ok-year.ensures c.in_ok-rest.ensures
    (subst (λ high. Follows (Two 1 high c.in_ok-day.day) c.in_ok-rest.rest.now c.in_ok-day.rest.now)
    c.last_day.ensures.value c.in_ok-day.ensures)
