-- What was done, in colors.
use Rattle.std.specs.Prelude.{◌≡◌}
use Rattle.syslog_value.specs.declared.severity.Severity.{Severity}
use Rattle.driver.specs.Effects.{Done}
use Rattle.colored_show.specs.Painting.{IsPainted}

-- the same was done, and the output is painted
pub record IsColored (severity : Severity) (plain done : Done) : Type 0 where
  pub refused : done.refused ≡ plain.refused
  pub output : IsPainted severity plain.output done.output
  pub diagnostics : done.diagnostics ≡ plain.diagnostics
