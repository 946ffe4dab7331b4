use Rattle.syslog_legacy.proofs.WideReads.{no_century, no_year_end}
use Rattle.syslog_legacy.proofs.wide_time.year.Goals as goal

pub returns-in_err-century : goal.returns-in_err-century
returns-in_err-century c = rw c.from_residual.ensures (no_century c.args.octets.now c.in_err-century.ensures)

pub returns-in_err-year : goal.returns-in_err-year
returns-in_err-year c =
    rw c.from_residual-in_err-year.ensures (no_year_end c.args.octets.now c.in_ok-century.rest.now
    c.in_ok-century.century c.in_ok-century.ensures c.in_err-year.ensures)
