use Rattle.std.proofs.Common.{ℤ, rules, subst, sym, w16}
use Rattle.std.proofs.lemmas.Int.{to_z-of_z}
use mir.Val.{SFits}
use Rattle.octet_language.specs.Reading.{Follows}
use Rattle.syslog_value.specs.declared.civil.Civil.{Civil}
use Rattle.syslog_fields.specs.Time.{ZoneText}
use Rattle.syslog_legacy.proofs.WideReads.{no_own_clock, no_own_date, no_own_zone, own_read}
use Rattle.syslog_legacy.proofs.wide_time.own_time.Goals as goal

pub returns-in_err-year : goal.returns-in_err-year
returns-in_err-year c = rw c.from_residual.ensures (no_own_date c.args.octets.now c.in_err-year.ensures)

pub returns-in_default : goal.returns-in_default
returns-in_default c =
    no_own_clock c.args.octets.now c.in_ok-year.rest.now c.in_ok-rest.rest.now
    (c.in_ok-year.year, c.in_ok-year.month, c.in_ok-year.day) c.in_ok-year.ensures c.in_ok-rest.ensures
    c.in_default.ensures.none

pub returns-in_err-offset_minutes : goal.returns-in_err-offset_minutes
returns-in_err-offset_minutes c =
    rw c.from_residual-in_err-offset_minutes.ensures (no_own_zone c.args.octets.now c.in_ok-year.rest.now
    c.in_ok-rest.rest.now c.in-Ok.rest.now c.fraction-micros.result.1.now
    (c.in_ok-year.year, c.in_ok-year.month, c.in_ok-year.day) (c.in-Ok.hour, c.in-Ok.minute, c.in-Ok.second)
    c.fraction-micros.result.0 c.in_ok-year.ensures c.in_ok-rest.ensures c.in-Ok.ensures c.fraction-micros.ensures
    c.in_err-offset_minutes.ensures)

pub returns : goal.returns
returns c =
    let civil : Civil = record {
      year = c.in_ok-year.year;
      month = c.in_ok-year.month;
      day = c.in_ok-year.day;
      hour = c.in-Ok.hour;
      minute = c.in-Ok.minute;
      second = c.in-Ok.second;
      micros = c.fraction-micros.result.0;
    } in
    let offset = c.in_ok-offset_minutes.offset_minutes in
    let fits : SFits w16 offset = search rules in
    let end = c.in_ok-offset_minutes.rest.now in
    own_read civil _ c.args.octets.now c.in_ok-year.rest.now c.in_ok-rest.rest.now c.in-Ok.rest.now
    c.fraction-micros.result.1.now end c.in_ok-year.ensures c.in_ok-rest.ensures c.in-Ok.ensures
    c.fraction-micros.ensures
    (subst (λ (z : ℤ). Follows (ZoneText z) c.fraction-micros.result.1.now end) (sym (to_z-of_z w16 offset fits))
    c.in_ok-offset_minutes.ensures)
