use Rattle.syslog_legacy.specs.declared.clock.Dialect.TheVariants.{Bsd, Wide}
use Rattle.syslog_legacy.specs.Splits.{TimePart}
use Rattle.syslog_legacy.specs.Timestamps.{TimestampText}
use Rattle.syslog_legacy.proofs.Parts.{as_part, lacks_part}
use Rattle.syslog_legacy.proofs.dialect_parts.time_part.Goals as goal

pub returns-in-Bsd : goal.returns-in-Bsd
returns-in-Bsd c =
    let clock = c.args.clock.now in
    as_part (λ d. TimePart d clock) clock.dialect Bsd c.args.octets.now c.timestamp.result (λ x. x.0) (λ x. x.1.now)
    c.in-Bsd.is
    (lacks_part (TimestampText clock) c.args.octets.now c.timestamp.result
    (λ x. TimePart Bsd clock x.0 c.args.octets.now x.1.now) c.timestamp.ensures)

pub returns-in-Wide : goal.returns-in-Wide
returns-in-Wide c =
    let clock = c.args.clock.now in
    as_part (λ d. TimePart d clock) clock.dialect Wide c.args.octets.now c.wide_timestamp.result (λ x. x.0)
    (λ x. x.1.now) c.in-Wide.is c.wide_timestamp.ensures
