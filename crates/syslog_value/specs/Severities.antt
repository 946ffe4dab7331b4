-- The severities, their codes and their short names (RFC 5424, 6.2.1, table 2).
use Rattle.std.specs.Prelude.{◌≢◌, ℕ, List, codes}
use Rattle.syslog_value.specs.declared.severity.Severity.{Severity}
use Rattle.syslog_value.specs.declared.severity.Severity.TheVariants.{Emergency, Alert, Critical, Error, Warning}
use Rattle.syslog_value.specs.declared.severity.Severity.TheVariants.{Notice, Informational, Debug}

abbrev pub severity_code : Severity → ℕ
severity_code Emergency = 0
severity_code Alert = 1
severity_code Critical = 2
severity_code Error = 3
severity_code Warning = 4
severity_code Notice = 5
severity_code Informational = 6
severity_code Debug = 7

abbrev pub severity_name : Severity → List ℕ
severity_name Emergency = codes "emerg"
severity_name Alert = codes "alert"
severity_name Critical = codes "crit"
severity_name Error = codes "err"
severity_name Warning = codes "warning"
severity_name Notice = codes "notice"
severity_name Informational = codes "info"
severity_name Debug = codes "debug"

-- the text names no severity
abbrev pub IsNoSeverityName : List ℕ → Type 0
IsNoSeverityName text = (severity : Severity) → severity_name severity ≢ text
