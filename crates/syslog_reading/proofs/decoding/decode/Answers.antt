use Rattle.syslog_reading.specs.ViewParts.{view_parts}
use Rattle.syslog_reading.proofs.RecordsOf.{some_record}
use Rattle.syslog_reading.proofs.decoding.decode.Goals as goal

pub returns-in-Err-to_record : goal.returns-in-Err-to_record
returns-in-Err-to_record c = some_record c.args.octets.now (view_parts c.in-Ok.seen) c.in-Ok.ensures.whole
