use Rattle.std.proofs.Common.{◌<◌, ◌≢◌}
use Rattle.syslog_value.specs.declared.severity.Severity.{Severity}
use Rattle.syslog_value.specs.Severities.{severity_code, severity_name}
use Rattle.syslog_value.proofs.severity.Severity.from_name.Given as goal

-- none so far has the name
abbrev pub invariant-loop-severity : goal.invariant-loop-severity
invariant-loop-severity l = (severity : Severity) → severity_code severity < l.severity-index
    → severity_name severity ≢ l.name
