use Rattle.syslog_reading.proofs.InnerTimes.{inner_record}
use Rattle.syslog_reading.proofs.whole.fault_of.Goals as goal

pub returns-then-has_inner_year : goal.returns-then-has_inner_year
returns-then-has_inner_year c =
    inner_record c.args.octets.now c.in-Ok.parsed c.in-Ok.ensures c.if-parsed.true
    (c.has_inner_year.ensures c.if-has_inner_year.true)
