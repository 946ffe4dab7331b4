use Rattle.std.proofs.Common.{refl}
use Rattle.std.proofs.lemmas.Bool.{false≢true}
use Rattle.octet_language.specs.Language.{AnyOf}
use Rattle.octet_language.proofs.Chain.{Follows-then, some_value}
use Rattle.octet_language.proofs.Sequence.{NoPrefix-first, NoPrefix-later}
use Rattle.syslog_fields.specs.Grammar.{Priority, Spaced, Version}
use Rattle.syslog_fields.proofs.Numbers.{IsPrefixFree-priority}
use Rattle.syslog_legacy.proofs.new_form.has_new_form.Goals as goal

pub returns-in_default : goal.returns-in_default
returns-in_default c =
    let none = NoPrefix-first (AnyOf Priority) (Spaced Version) c.args.octets.now c.in_default.ensures.none in
    (λ h. absurd (false≢true h), λ (rest, (x, e, h)). absurd (none x rest e h))

pub returns-in-Ok-version : goal.returns-in-Ok-version
returns-in-Ok-version c =
    let new = Follows-then (AnyOf Priority) (Spaced Version) c.args.octets.now c.in-Ok.rest.now
    c.in-Ok-version.field-0.now
    (some_value Priority c.in-Ok._value c.args.octets.now c.in-Ok.rest.now c.in-Ok.ensures) c.in-Ok-version.ensures in
    (λ h. (c.in-Ok-version.field-0.now, new), λ h. refl)

pub returns-in-Err : goal.returns-in-Err
returns-in-Err c =
    let f = some_value Priority c.in-Ok._value c.args.octets.now c.in-Ok.rest.now c.in-Ok.ensures in
    let none = NoPrefix-later (AnyOf Priority) (Spaced Version) c.args.octets.now f.0 c.in-Ok.rest.now
    IsPrefixFree-priority f.2 f.1 c.in-Err.ensures.none in
    (λ h. absurd (false≢true h), λ (rest, (x, e, h)). absurd (none x rest e h))
