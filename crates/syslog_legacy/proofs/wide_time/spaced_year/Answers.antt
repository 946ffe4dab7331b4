use Rattle.syslog_legacy.proofs.WideReads.{year_space}
use Rattle.syslog_legacy.proofs.wide_time.spaced_year.Goals as goal

pub returns : goal.returns
returns c =
    year_space c.args.octets.now c.in_ok-year.rest.now c.in_ok-rest.rest.now c.in_ok-year.year c.in_ok-year.ensures
    c.in_ok-rest.ensures
