use Rattle.std.proofs.Common.{refl}
use Rattle.syslog_fields.proofs.Utf8Text.{IsUtf8-text, IsText-utf8}
use Rattle.syslog_fields.proofs.text.is_text.Goals as goal

pub returns-in-Ok : goal.returns-in-Ok
returns-in-Ok c = (λ t. IsText-utf8 c.args.octets.now c.in-Ok.ensures.1, λ h. refl)

pub returns-in-Err : goal.returns-in-Err
returns-in-Err c = (λ t. absurd cc, λ h. absurd (c.in-Err.ensures (IsUtf8-text c.args.octets.now h)))
