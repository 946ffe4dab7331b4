use Rattle.syslog_legacy.proofs.WideReads.{no_named_clock, no_named_date}
use Rattle.syslog_legacy.proofs.wide_time.named_time.Goals as goal

pub returns-in_err-year : goal.returns-in_err-year
returns-in_err-year c =
    rw c.from_residual.ensures (no_named_date c.args.clock_year c.args.octets.now c.in_err-year.ensures)

pub returns-in_default : goal.returns-in_default
returns-in_default c =
    no_named_clock c.args.clock_year (c.in_ok-year.year, c.in_ok-year.month, c.in_ok-year.day) c.args.octets.now
    c.in_ok-year.rest.now c.in_ok-year.ensures c.in_default.ensures.none
