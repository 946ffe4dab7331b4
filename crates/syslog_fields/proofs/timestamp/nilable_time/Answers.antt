use Rattle.std.proofs.lemmas.Result.{err_from_is_err_and}
use Rattle.syslog_fields.specs.Dates.{time_of}
use Rattle.syslog_fields.proofs.Loops.{Fails-empty}
use Rattle.syslog_fields.proofs.Fractions.{AnyTime, nil_time, nilable_some, bad_nil, bad_time, bad_space, nil_read}
use Rattle.syslog_fields.proofs.Fractions.{some_read}
use Rattle.syslog_fields.proofs.timestamp.nilable_time.Goals as goal

pub returns-in_default : goal.returns-in_default
returns-in_default c = Fails-empty AnyTime c.args.octets.now _ nil_time nilable_some c.in_default.ensures

pub returns-in_err-rest : goal.returns-in_err-rest
returns-in_err-rest c =
    let p = err_from_is_err_and c.from_residual.result c.from_residual.ensures.1 in
    rw (p.1, p.2) (bad_nil c.args.octets.now c.in-Some.behind.now c.in-Some.first _ c.in-Some.ensures
    c.if-first-eq45.true c.in_err-rest.ensures)

pub returns-then-first-eq45 : goal.returns-then-first-eq45
returns-then-first-eq45 c = nil_read c.args.octets.now c.in-Some.behind.now c.in_ok-rest.rest.now c.in-Some.first
    c.in-Some.ensures c.if-first-eq45.true c.in_ok-rest.ensures

pub returns-in_err-time : goal.returns-in_err-time
returns-in_err-time c =
    let p = err_from_is_err_and c.from_residual-in_err-time.result c.from_residual-in_err-time.ensures.1 in
    rw (p.1, p.2) (bad_time c.args.octets.now c.in-Some.behind.now c.in-Some.first _ c.in-Some.ensures
    c.if-first-eq45.false c.in_err-time.ensures)

pub returns-in_err-rest-2 : goal.returns-in_err-rest-2
returns-in_err-rest-2 c =
    let p = err_from_is_err_and c.from_residual-in_err-rest-2.result c.from_residual-in_err-rest-2.ensures.1 in
    rw (p.1, p.2) (bad_space c.args.octets.now c.in-Some.behind.now c.in_ok-time.rest.now c.in-Some.first _
    (time_of c.in_ok-time.time) c.in-Some.ensures c.if-first-eq45.false c.in_ok-time.ensures
    c.in_err-rest-2.ensures)

pub returns : goal.returns
returns c = some_read c.args.octets.now c.in_ok-time.rest.now c.in_ok-rest-2.rest.now (time_of c.in_ok-time.time)
    c.in_ok-time.ensures c.in_ok-rest-2.ensures
