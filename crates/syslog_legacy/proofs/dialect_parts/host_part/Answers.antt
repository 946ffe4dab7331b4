use Rattle.std.specs.Prelude.{option_map}
use Rattle.syslog_legacy.specs.declared.clock.Dialect.TheVariants.{Bsd, Wide}
use Rattle.syslog_legacy.specs.Splits.{HostPart}
use Rattle.syslog_legacy.proofs.Parts.{as_part}
use Rattle.syslog_legacy.proofs.dialect_parts.host_part.Goals as goal

pub returns-in-Bsd : goal.returns-in-Bsd
returns-in-Bsd c =
    as_part HostPart c.args.clock.now.dialect Bsd c.args.octets.now c.host.result (λ x. option_map (λ s. s.now) x.0)
    (λ x. x.1.now) c.in-Bsd.is c.host.ensures

pub returns-in-Wide : goal.returns-in-Wide
returns-in-Wide c =
    as_part HostPart c.args.clock.now.dialect Wide c.args.octets.now c.wide_host.result
    (λ x. option_map (λ s. s.now) x.0) (λ x. x.1.now) c.in-Wide.is c.wide_host.ensures
