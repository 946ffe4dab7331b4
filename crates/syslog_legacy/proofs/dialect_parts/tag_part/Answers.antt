use Rattle.syslog_legacy.specs.declared.clock.Dialect.TheVariants.{Bsd, Wide}
use Rattle.syslog_legacy.specs.Splits.{TagPart}
use Rattle.syslog_legacy.specs.TagViews.{tag_parts}
use Rattle.syslog_legacy.proofs.Parts.{as_part}
use Rattle.syslog_legacy.proofs.dialect_parts.tag_part.Goals as goal

pub returns-in-Bsd : goal.returns-in-Bsd
returns-in-Bsd c =
    as_part TagPart c.args.clock.now.dialect Bsd c.args.octets.now c.read_tag.result (λ x. tag_parts x.0)
    (λ x. x.1.now) c.in-Bsd.is c.read_tag.ensures

pub returns-in-Wide : goal.returns-in-Wide
returns-in-Wide c =
    as_part TagPart c.args.clock.now.dialect Wide c.args.octets.now c.wide_tag.result (λ x. tag_parts x.0)
    (λ x. x.1.now) c.in-Wide.is c.wide_tag.ensures
