use Rattle.std.proofs.lemmas.Result.{err_from_is_err_and}
use Rattle.octet_language.specs.Language.{AnyOf}
use Rattle.syslog_fields.specs.Dates.{HourMinute}
use Rattle.syslog_fields.specs.Time.{Two}
use Rattle.syslog_fields.proofs.Separated.{bad_first, bad_middle, bad_second}
use Rattle.syslog_fields.proofs.Times.{IsPrefixFree-hour_minute, some_two, as_clock, clock_read}
use Rattle.syslog_fields.proofs.timestamp.read_clock.Goals as goal

pub returns-in_err-hour : goal.returns-in_err-hour
returns-in_err-hour c =
    let p = err_from_is_err_and c.from_residual.result c.from_residual.ensures.1 in
    rw (p.1, p.2) (as_clock _ _ (bad_first (AnyOf HourMinute) (AnyOf (Two 0 59)) 58 _ _ _ (some_two 59)
    c.in_err-hour.ensures))

pub returns-in_err-rest : goal.returns-in_err-rest
returns-in_err-rest c =
    let p = err_from_is_err_and c.from_residual-in_err-rest.result c.from_residual-in_err-rest.ensures.1 in
    let f = c.in_ok-hour.ensures in
    rw (p.1, p.2) (as_clock _ _ (bad_middle (AnyOf HourMinute) (AnyOf (Two 0 59)) 58 _ c.in_ok-hour.rest.now _ _
    IsPrefixFree-hour_minute (some_two 59) (f.0, f.1, ((c.in_ok-hour.hour, c.in_ok-hour.minute), f.2))
    c.in_err-rest.ensures))

pub returns-in_err-second : goal.returns-in_err-second
returns-in_err-second c =
    let p = err_from_is_err_and c.from_residual-in_err-second.result c.from_residual-in_err-second.ensures.1 in
    let f = c.in_ok-hour.ensures in
    rw (p.1, p.2) (as_clock _ _ (bad_second (AnyOf HourMinute) (AnyOf (Two 0 59)) 58 _ c.in_ok-hour.rest.now
    c.in_ok-rest.rest.now _ IsPrefixFree-hour_minute (f.0, f.1, ((c.in_ok-hour.hour, c.in_ok-hour.minute), f.2))
    c.in_ok-rest.ensures c.in_err-second.ensures))

pub returns : goal.returns
returns c = clock_read c.args.octets.now c.in_ok-hour.rest.now c.in_ok-rest.rest.now c.in_ok-second.rest.now
    c.in_ok-hour.hour c.in_ok-hour.minute c.in_ok-second.second c.in_ok-hour.ensures c.in_ok-rest.ensures
    c.in_ok-second.ensures
