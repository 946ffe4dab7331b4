-- The tables of severities and facilities are in the order of their codes.
use Rattle.std.proofs.Common.{◌≡◌, ◌≢◌, ℕ, ◌<◌, List, get_or, true, false, arith, refl, sym, ap, ◌∙◌}
use Rattle.std.specs.Str.{bytes_eq}
use Rattle.std.proofs.lemmas.Slice.Eq.{bytes_eq-Decides}
use Rattle.syslog_value.specs.declared.severity.Severity.{Severity}
use Rattle.syslog_value.specs.declared.severity.Severity.TheVariants as severity
use Rattle.syslog_value.specs.declared.severity.TheConstants.Severity as severities
use Rattle.syslog_value.specs.Severities.{severity_code}
use Rattle.syslog_value.specs.declared.facility.Facility.{Facility}
use Rattle.syslog_value.specs.declared.facility.Facility.TheVariants as facility
use Rattle.syslog_value.specs.declared.facility.TheConstants.Facility as facilities
use Rattle.syslog_value.specs.Facilities.{facility_code}

-- two texts that `==` tells apart
pub texts_differ : (a b : List ℕ) → bytes_eq a b ≡ false → a ≢ b
texts_differ a b unequal same = let equal : bytes_eq a b ≡ true = (bytes_eq-Decides a b).1 same in cc

pub severity_at : (s : Severity) → get_or severities.ALL (severity_code s) severity.Emergency ≡ s
severity_at severity.Emergency = refl
severity_at severity.Alert = refl
severity_at severity.Critical = refl
severity_at severity.Error = refl
severity_at severity.Warning = refl
severity_at severity.Notice = refl
severity_at severity.Informational = refl
severity_at severity.Debug = refl

pub severity_code-lt : (s : Severity) → severity_code s < 8
severity_code-lt severity.Emergency = omega arith
severity_code-lt severity.Alert = omega arith
severity_code-lt severity.Critical = omega arith
severity_code-lt severity.Error = omega arith
severity_code-lt severity.Warning = omega arith
severity_code-lt severity.Notice = omega arith
severity_code-lt severity.Informational = omega arith
severity_code-lt severity.Debug = omega arith

pub facility_at : (f : Facility) → get_or facilities.ALL (facility_code f) facility.Kern ≡ f
facility_at facility.Kern = refl
facility_at facility.User = refl
facility_at facility.Mail = refl
facility_at facility.Daemon = refl
facility_at facility.Auth = refl
facility_at facility.Syslog = refl
facility_at facility.Lpr = refl
facility_at facility.News = refl
facility_at facility.Uucp = refl
facility_at facility.Cron = refl
facility_at facility.AuthPriv = refl
facility_at facility.Ftp = refl
facility_at facility.Ntp = refl
facility_at facility.Audit = refl
facility_at facility.Alert = refl
facility_at facility.Clock = refl
facility_at facility.Local0 = refl
facility_at facility.Local1 = refl
facility_at facility.Local2 = refl
facility_at facility.Local3 = refl
facility_at facility.Local4 = refl
facility_at facility.Local5 = refl
facility_at facility.Local6 = refl
facility_at facility.Local7 = refl

pub facility_code-lt : (f : Facility) → facility_code f < 24
facility_code-lt facility.Kern = omega arith
facility_code-lt facility.User = omega arith
facility_code-lt facility.Mail = omega arith
facility_code-lt facility.Daemon = omega arith
facility_code-lt facility.Auth = omega arith
facility_code-lt facility.Syslog = omega arith
facility_code-lt facility.Lpr = omega arith
facility_code-lt facility.News = omega arith
facility_code-lt facility.Uucp = omega arith
facility_code-lt facility.Cron = omega arith
facility_code-lt facility.AuthPriv = omega arith
facility_code-lt facility.Ftp = omega arith
facility_code-lt facility.Ntp = omega arith
facility_code-lt facility.Audit = omega arith
facility_code-lt facility.Alert = omega arith
facility_code-lt facility.Clock = omega arith
facility_code-lt facility.Local0 = omega arith
facility_code-lt facility.Local1 = omega arith
facility_code-lt facility.Local2 = omega arith
facility_code-lt facility.Local3 = omega arith
facility_code-lt facility.Local4 = omega arith
facility_code-lt facility.Local5 = omega arith
facility_code-lt facility.Local6 = omega arith
facility_code-lt facility.Local7 = omega arith

-- a code is that of one facility or severity
pub facility_once : (f g : Facility) → facility_code f ≡ facility_code g → f ≡ g
facility_once f g e =
    sym (facility_at f) ∙ ap (λ (k : ℕ). get_or facilities.ALL k facility.Kern) e ∙ facility_at g

pub severity_once : (s t : Severity) → severity_code s ≡ severity_code t → s ≡ t
severity_once s t e =
    sym (severity_at s) ∙ ap (λ (k : ℕ). get_or severities.ALL k severity.Emergency) e ∙ severity_at t
