use Rattle.std.proofs.lemmas.Result.{err_from_is_err_and}
use Rattle.octet_language.specs.Language.{AnyOf}
use Rattle.syslog_fields.specs.Time.{Two}
use Rattle.syslog_fields.proofs.Separated.{as_pair, bad_first, bad_middle, bad_second, both_read}
use Rattle.syslog_fields.proofs.Times.{IsPrefixFree-two, some_two}
use Rattle.syslog_fields.proofs.timestamp.hour_minute.Goals as goal

pub returns-in_err-hour : goal.returns-in_err-hour
returns-in_err-hour c =
    let p = err_from_is_err_and c.from_residual.result c.from_residual.ensures.1 in
    rw (p.1, p.2) (as_pair (Two 0 23) (Two 0 59) 58 _ _
    (bad_first (AnyOf (Two 0 23)) (AnyOf (Two 0 59)) 58 _ _ _ (some_two 59) c.in_err-hour.ensures))

pub returns-in_err-rest : goal.returns-in_err-rest
returns-in_err-rest c =
    let p = err_from_is_err_and c.from_residual-in_err-rest.result c.from_residual-in_err-rest.ensures.1 in
    let f = c.in_ok-hour.ensures in
    rw (p.1, p.2) (as_pair (Two 0 23) (Two 0 59) 58 _ _
    (bad_middle (AnyOf (Two 0 23)) (AnyOf (Two 0 59)) 58 _ c.in_ok-hour.rest.now _ _ (IsPrefixFree-two 0 23)
    (some_two 59) (f.0, f.1, (c.in_ok-hour.hour, f.2)) c.in_err-rest.ensures))

pub returns-in_err-minute : goal.returns-in_err-minute
returns-in_err-minute c =
    let p = err_from_is_err_and c.from_residual-in_err-minute.result c.from_residual-in_err-minute.ensures.1 in
    let f = c.in_ok-hour.ensures in
    rw (p.1, p.2) (as_pair (Two 0 23) (Two 0 59) 58 _ _
    (bad_second (AnyOf (Two 0 23)) (AnyOf (Two 0 59)) 58 _ c.in_ok-hour.rest.now c.in_ok-rest.rest.now _
    (IsPrefixFree-two 0 23) (f.0, f.1, (c.in_ok-hour.hour, f.2)) c.in_ok-rest.ensures c.in_err-minute.ensures))

pub returns : goal.returns
returns c = both_read (Two 0 23 c.in_ok-hour.hour) (Two 0 59 c.in_ok-minute.minute) 58 c.args.octets.now
    c.in_ok-hour.rest.now c.in_ok-rest.rest.now c.in_ok-minute.rest.now c.in_ok-hour.ensures c.in_ok-rest.ensures
    c.in_ok-minute.ensures
