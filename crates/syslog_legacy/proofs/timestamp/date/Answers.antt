use Rattle.std.proofs.Common.{◌≡◌, get_or, rules}
use Rattle.syslog_legacy.proofs.Months.{date_read, no_day}
use Rattle.syslog_legacy.proofs.timestamp.date.Goals as goal

pub returns-in_err-day : goal.returns-in_err-day
returns-in_err-day c =
    let first : get_or c.args.octets.now 3 0 ≡ 32 = search rules in
    rw c.from_residual-in_err-day.ensures
    (no_day c.args.year c.in_ok-month.month c.last_day.result c.args.octets.now c.in-32.len_at_least first
    c.in_ok-month.ensures c.last_day.ensures.value c.in_err-day.ensures)

pub returns : goal.returns
returns c =
    let first : get_or c.args.octets.now 3 0 ≡ 32 = search rules in
    let second : get_or c.args.octets.now 6 0 ≡ 32 = search rules in
    date_read c.args.year c.in_ok-month.month c.in_ok-day.day c.last_day.result c.args.octets.now c.in-32.len_at_least
    first second c.in_ok-month.ensures c.last_day.ensures.value c.in_ok-day.ensures
