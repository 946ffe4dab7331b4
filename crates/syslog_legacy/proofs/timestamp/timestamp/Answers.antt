use Rattle.std.proofs.Common.{◌∙◌, sym, subst, rules, w16}
use Rattle.std.proofs.lemmas.Int.{to_z-of_z}
use mir.Val.{SFits}
use Rattle.syslog_value.specs.Instants.{IsOffset}
use Rattle.syslog_value.proofs.InnerYears.{no_fault}
use Rattle.syslog_legacy.proofs.Times.{civil_exists, civil_of, no_clock, no_date, no_space, not_space}
use Rattle.syslog_legacy.proofs.Times.{time_read}
use Rattle.syslog_legacy.proofs.timestamp.timestamp.Goals as goal

pub returns-in_err-month : goal.returns-in_err-month
returns-in_err-month c = rw c.from_residual.ensures
    (no_date c.args.legacy_clock.now c.year-year.result c.args.octets.now c.year-year.ensures.value
    c.in_err-month.ensures)

pub returns-in_default : goal.returns-in_default
returns-in_default c =
    no_clock c.args.legacy_clock.now c.year-year.result (c.in_ok-month.month, c.in_ok-month.day) c.args.octets.now
    c.in_ok-month.rest.now c.year-year.ensures.value c.in_ok-month.ensures c.in_default.ensures.none

pub returns-in_err-rest : goal.returns-in_err-rest
returns-in_err-rest c =
    rw c.from_residual-in_err-rest.ensures
    (no_space c.args.legacy_clock.now c.year-year.result (c.in_ok-month.month, c.in_ok-month.day)
    (c.in-Ok.hour, c.in-Ok.minute, c.in-Ok.second) c.args.octets.now c.in_ok-month.rest.now c.in-Ok.rest.now
    c.year-year.ensures.value c.in_ok-month.ensures c.in-Ok.ensures (not_space c.in-Ok.rest.now c.in_err-rest.ensures))

pub unreachable-requires : goal.unreachable-requires
unreachable-requires c =
    let year = c.year-year.result in
    let fits : SFits w16 c.offset_minutes.result = search rules in
    let offset = to_z-of_z w16 c.offset_minutes.result fits in
    no_fault (civil_of year (c.in_ok-month.month, c.in_ok-month.day) (c.in-Ok.hour, c.in-Ok.minute, c.in-Ok.second)) _
    c.in-Err.field-0 c.year-year.ensures.range
    (civil_exists year (c.in_ok-month.month, c.in_ok-month.day) (c.in-Ok.hour, c.in-Ok.minute, c.in-Ok.second)
    c.args.octets.now c.in_ok-month.rest.now c.in-Ok.rest.now c.year-year.ensures.range c.in_ok-month.ensures
    c.in-Ok.ensures)
    (subst IsOffset (sym offset) c.offset_minutes.ensures.range) c.in-Err.ensures.err

pub returns : goal.returns
returns c =
    let fits : SFits w16 c.offset_minutes.result = search rules in
    let offset = to_z-of_z w16 c.offset_minutes.result fits in
    time_read c.args.legacy_clock.now c.year-year.result (c.in_ok-month.month, c.in_ok-month.day)
    (c.in-Ok.hour, c.in-Ok.minute, c.in-Ok.second) c.in-Ok-from_civil.instant _ c.args.octets.now
    c.in_ok-month.rest.now
    c.in-Ok.rest.now c.in_ok-rest.rest.now c.year-year.ensures.value (offset ∙ c.offset_minutes.ensures.value)
    c.in_ok-month.ensures c.in-Ok.ensures c.in_ok-rest.ensures c.in-Ok-from_civil.ensures.ok.2
