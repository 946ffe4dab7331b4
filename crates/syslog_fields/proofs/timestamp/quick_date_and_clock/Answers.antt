use Rattle.std.proofs.Common.{◌≤◌, ℕ, arith, subst, sym, ◌∙◌}
use Rattle.syslog_fields.specs.Dates.{DateClock}
use Rattle.syslog_fields.proofs.Stamps.{date_clock_at}
use Rattle.syslog_fields.proofs.timestamp.quick_date_and_clock.Goals as goal

pub returns : goal.returns
returns c =
    let seconds = c.has_seconds.ensures.0 c.if-not-has_seconds.false in
    subst (DateClock ((_, c.number-month.result, c.number-day.result), (c.number-hour.result, c.number-3.result, c.number-4.result))
    c.args.octets.now) (sym c.split_at.ensures.back)
    (date_clock_at c.args.octets.now c.from.result c.from-2.result c.number-month.result c.number-day.result
    c.number-hour.result c.number-3.result c.number-4.result c.if-octets-lt-STAMP_LEN.false
    (c.has_date_shape.ensures c.if-not-has_date_shape.false) seconds.0 seconds.1 seconds.2 seconds.3
    (c.from.ensures ∙ c.number.ensures) (c.from-2.ensures ∙ c.number-2.ensures) c.number-month.ensures
    c.number-day.ensures c.number-hour.ensures c.number-3.ensures c.number-4.ensures (omega arith) (omega arith)
    (omega arith) (subst (λ (most : ℕ). c.number-day.result ≤ most) c.last_day.ensures.value c.if-day-last_day.false)
    (subst (λ (most : ℕ). most ≤ 31) c.last_day.ensures.value c.last_day.ensures.range.1) (omega arith))
