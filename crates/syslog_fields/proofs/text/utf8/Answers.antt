use Rattle.octet_language.proofs.Whole.{Misses-offset}
use Rattle.syslog_fields.specs.Utf8.{IsText}
use Rattle.syslog_fields.proofs.text.utf8.Goals as goal

pub returns-in-Err : goal.returns-in-Err
returns-in-Err c = Misses-offset IsText c.args.octets.now c.in-Err.stop.remaining c.in-Err.ensures
