use Rattle.std.proofs.Common.{rules, w16}
use Rattle.std.proofs.lemmas.Int.{to_z-of_z}
use mir.Val.{SFits}
use Rattle.std.proofs.lemmas.Result.{err_from_is_err_and}
use Rattle.syslog_fields.proofs.Loops.{Fails-empty}
use Rattle.syslog_fields.proofs.Fractions.{AnyFraction, only_utc, fraction_some, bad_decimals, bad_zone, bad_alone}
use Rattle.syslog_fields.proofs.Fractions.{point_read, alone_read}
use Rattle.syslog_fields.proofs.timestamp.read_fraction_and_zone.Goals as goal

pub returns-in_default : goal.returns-in_default
returns-in_default c = Fails-empty AnyFraction c.args.octets.now _ only_utc fraction_some c.in_default.ensures

pub returns-in_err-micros : goal.returns-in_err-micros
returns-in_err-micros c =
    let p = err_from_is_err_and c.from_residual.result c.from_residual.ensures.1 in
    rw (p.1, p.2) (bad_decimals c.args.octets.now c.in-Some.behind.now c.in-Some.first _ c.in-Some.ensures
    c.if-first-eq46.true c.in_err-micros.ensures)

pub returns-in_err-offset : goal.returns-in_err-offset
returns-in_err-offset c =
    let p = err_from_is_err_and c.from_residual-in_err-offset.result c.from_residual-in_err-offset.ensures.1 in
    rw (p.1, p.2) (bad_zone c.args.octets.now c.in-Some.behind.now c.in_ok-micros.rest.now c.in-Some.first
    c.in_ok-micros.micros _ c.in-Some.ensures c.if-first-eq46.true c.in_ok-micros.ensures c.in_err-offset.ensures)

pub returns-then-first-eq46 : goal.returns-then-first-eq46
returns-then-first-eq46 c =
    let f : SFits w16 c.in_ok-offset.offset = search rules in
    point_read c.args.octets.now c.in-Some.behind.now c.in_ok-micros.rest.now c.in_ok-offset.rest.now c.in-Some.first
    c.in_ok-micros.micros c.in_ok-offset.offset _ (to_z-of_z w16 c.in_ok-offset.offset f) c.in-Some.ensures
    c.if-first-eq46.true c.in_ok-micros.ensures.0 c.in_ok-offset.ensures

pub returns-in_err-offset-2 : goal.returns-in_err-offset-2
returns-in_err-offset-2 c =
    let p = err_from_is_err_and c.from_residual-in_err-offset-2.result c.from_residual-in_err-offset-2.ensures.1 in
    rw (p.1, p.2) (bad_alone c.args.octets.now c.in-Some.behind.now c.in-Some.first _ c.in-Some.ensures
    c.if-first-eq46.false c.in_err-offset-2.ensures)

pub returns : goal.returns
returns c =
    let f : SFits w16 c.in_ok-offset-2.offset = search rules in
    alone_read c.args.octets.now c.in_ok-offset-2.rest.now c.in_ok-offset-2.offset _
    (to_z-of_z w16 c.in_ok-offset-2.offset f) c.in_ok-offset-2.ensures
