use Rattle.std.proofs.Common.{rules, w16, sym, ◌∙◌}
use Rattle.std.proofs.lemmas.Int.{to_z-of_z}
use mir.Val.{SFits}
use Rattle.std.proofs.lemmas.Result.{err_from_is_err_and}
use Rattle.syslog_fields.proofs.Fractions.{bad_fraction, time_read}
use Rattle.syslog_fields.proofs.Loops.{left_at}
use Rattle.syslog_fields.proofs.timestamp.time.Goals as goal

pub returns-in_err-year : goal.returns-in_err-year
returns-in_err-year c =
    let p = err_from_is_err_and c.from_residual.result c.from_residual.ensures.1 in
    rw (p.1, p.2) c.in_err-year.ensures

pub returns-in_err-micros : goal.returns-in_err-micros
returns-in_err-micros c =
    let p = err_from_is_err_and c.from_residual-in_err-micros.result c.from_residual-in_err-micros.ensures.1 in
    let d = c.in_ok-year.ensures in
    rw (p.1, p.2) (bad_fraction _ d.0 d.1 c.in_ok-year.rest.now (c.in_ok-year.year, c.in_ok-year.month, c.in_ok-year.day)
    (c.in_ok-year.hour, c.in_ok-year.minute, c.in_ok-year.second) _ d.2 d.3 d.4 c.in_err-micros.ensures)

pub returns : goal.returns
returns c =
    let f : SFits w16 c.in_ok-micros.offset_minutes = search rules in
    let d = c.in_ok-year.ensures in
    let read = time_read c.args.octets.now d.0 d.1 c.in_ok-year.rest.now c.in_ok-micros.rest.now
    (c.in_ok-year.year, c.in_ok-year.month, c.in_ok-year.day) (c.in_ok-year.hour, c.in_ok-year.minute, c.in_ok-year.second)
    c.in_ok-micros.micros c.in_ok-micros.offset_minutes _ (to_z-of_z w16 c.in_ok-micros.offset_minutes f) d.2 d.3 d.4
    c.in_ok-micros.ensures in
    let left = left_at c.args.octets.now read.0 c.in_ok-micros.rest.now read.1 in
    rw (c.split_at.ensures.back ∙ sym left) read
