use Rattle.std.proofs.Common.{arith}
use Rattle.syslog_legacy.proofs.WideReads.{offset_read}
use Rattle.syslog_legacy.proofs.wide_time.offset.Goals as goal

pub returns-clause-reads : goal.returns-clause-reads
returns-clause-reads c =
    offset_read c.args.octets.now c.in_ok-hour.rest.now c.in_ok-rest.rest.now c.in_ok-minute.rest.now c.in_ok-hour.hour
    c.in_ok-minute.minute _ c.in_ok-hour.ensures c.in_ok-rest.ensures c.in_ok-minute.ensures
    (omega (arith, c.from.ensures, c.from-2.ensures))
