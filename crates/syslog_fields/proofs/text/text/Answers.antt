use Rattle.syslog_fields.proofs.Utf8Text.{IsUtf8-text, IsText-utf8}
use Rattle.syslog_fields.proofs.text.text.Goals as goal

pub unreachable-requires : goal.unreachable-requires
unreachable-requires c = c.in-Err.ensures (IsUtf8-text c.args.octets.now c.in-Ok-characters.ensures)

pub returns-in-Ok : goal.returns-in-Ok
returns-in-Ok c = (c.in-Ok.ensures.0, IsText-utf8 c.args.octets.now c.in-Ok.ensures.1)
