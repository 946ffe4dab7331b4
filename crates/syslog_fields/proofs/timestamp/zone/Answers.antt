use Rattle.std.proofs.Common.{inl, inr, arith, ◌≢◌, ℕ}
use Rattle.std.proofs.lemmas.Int.{ints}
use Rattle.std.proofs.lemmas.Result.{err_from_is_err_and}
use Rattle.syslog_fields.proofs.Runs.{IfFirst-empty, IfFirst-cons}
use Rattle.syslog_fields.proofs.Fractions.{IsSign, no_zone, bad_plus, bad_minus, zone_utc, zone_plus, zone_minus}
use Rattle.syslog_fields.proofs.timestamp.zone.Goals as goal

pub returns-in_default : goal.returns-in_default
returns-in_default c = no_zone c.args.octets.now (IfFirst-empty _ _ c.in_default.ensures)

pub returns-then-sign-eq90 : goal.returns-then-sign-eq90
returns-then-sign-eq90 c = zone_utc c.args.octets.now c.in-Some.rest.now c.in-Some.sign c.in-Some.ensures
    c.if-sign-eq90.true

pub returns-in_err-minutes : goal.returns-in_err-minutes
returns-in_err-minutes c =
    let p = err_from_is_err_and c.from_residual.result c.from_residual.ensures.1 in
    rw (p.1, p.2) (bad_plus c.args.octets.now c.in-Some.rest.now c.in-Some.sign _ c.in-Some.ensures c.if-sign-eq43.true
    c.in_err-minutes.ensures.reads)

pub returns-then-sign-eq43 : goal.returns-then-sign-eq43
returns-then-sign-eq43 c = zone_plus c.args.octets.now c.in-Some.rest.now c.in_ok-minutes.rest.now c.in-Some.sign
    c.in_ok-minutes.minutes _ c.in-Some.ensures c.if-sign-eq43.true (omega (arith, ints, c.in_ok-minutes.ensures.range))
    c.in_ok-minutes.ensures.reads

pub returns-in_err-minutes-2 : goal.returns-in_err-minutes-2
returns-in_err-minutes-2 c =
    let p = err_from_is_err_and c.from_residual-in_err-minutes-2.result c.from_residual-in_err-minutes-2.ensures.1 in
    rw (p.1, p.2) (bad_minus c.args.octets.now c.in-Some.rest.now c.in-Some.sign _ c.in-Some.ensures c.if-sign-eq45.true
    c.in_err-minutes-2.ensures.reads)

pub returns-then-sign-eq45 : goal.returns-then-sign-eq45
returns-then-sign-eq45 c = zone_minus c.args.octets.now c.in-Some.rest.now c.in_ok-minutes-2.rest.now c.in-Some.sign
    c.in_ok-minutes-2.minutes _ c.in-Some.ensures c.if-sign-eq45.true
    (omega (arith, ints, c.in_ok-minutes-2.ensures.range)) c.in_ok-minutes-2.ensures.reads

no_sign : (x : ℕ) → x ≢ 90 → x ≢ 43 → x ≢ 45 → ¬ (IsSign x)
no_sign x a b d (inl e) = a e
no_sign x a b d (inr (inl e)) = b e
no_sign x a b d (inr (inr e)) = d e

pub returns : goal.returns
returns c = no_zone c.args.octets.now (IfFirst-cons _ _ _ _ c.in-Some.ensures
    (no_sign c.in-Some.sign c.if-sign-eq90.false c.if-sign-eq43.false c.if-sign-eq45.false))
