use Rattle.syslog_fields.proofs.Messages.{message_misses}
use Rattle.syslog_reading.proofs.message.message.Goals as goal

pub returns-in-Err : goal.returns-in-Err
returns-in-Err c = message_misses c.args.octets.now c.in-Some.behind.now c.in-Err.stop.remaining c.in-Some.ensures
    c.in-Err.ensures
