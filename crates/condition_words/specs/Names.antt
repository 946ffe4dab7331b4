-- The severity and the facility that a word names.
use Rattle.std.specs.Prelude.{List, [], ◌∷◌, Option, Some, None, codes, find}
use Rattle.std.specs.Str.{bytes_eq}
use Rattle.clap.specs.Walk.{Text}
use Rattle.syslog_value.specs.Facilities.{facility_name}
use Rattle.syslog_value.specs.Severities.{severity_name}
use Rattle.syslog_value.specs.declared.facility.Facility.{Facility}
use Rattle.syslog_value.specs.declared.facility.Facility.TheVariants as facility
use Rattle.syslog_value.specs.declared.severity.Severity.{Severity}
use Rattle.syslog_value.specs.declared.severity.Severity.TheVariants as severity

abbrev pub severities : List Severity
severities =
    severity.Emergency ∷ severity.Alert ∷ severity.Critical ∷ severity.Error ∷ severity.Warning ∷ severity.Notice
    ∷ severity.Informational ∷ severity.Debug ∷ []

-- the severity with this name
abbrev pub severity_of : Text → Option Severity
severity_of name = find (λ s. bytes_eq (severity_name s) name) severities

abbrev pub facilities : List Facility
facilities =
    facility.Kern ∷ facility.User ∷ facility.Mail ∷ facility.Daemon ∷ facility.Auth ∷ facility.Syslog ∷ facility.Lpr
    ∷ facility.News ∷ facility.Uucp ∷ facility.Cron ∷ facility.AuthPriv ∷ facility.Ftp ∷ facility.Ntp ∷ facility.Audit
    ∷ facility.Alert ∷ facility.Clock ∷ facility.Local0 ∷ facility.Local1 ∷ facility.Local2 ∷ facility.Local3
    ∷ facility.Local4 ∷ facility.Local5 ∷ facility.Local6 ∷ facility.Local7 ∷ []

-- the facility with this name
abbrev pub facility_of : Text → Option Facility
facility_of name = find (λ f. bytes_eq (facility_name f) name) facilities
