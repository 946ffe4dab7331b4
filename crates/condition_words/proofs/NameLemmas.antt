-- The value that a name is of, by what its reader says.
use Rattle.std.proofs.Common.{◌≡◌, ◌∙◌, ℕ, List, [], ◌∷◌, Bool, true, false, Option, Some, None, refl, sym, ap}
use Rattle.std.specs.Prelude.{find, IfSome, IfNone}
use Rattle.std.specs.Bool.{Decides}
use Rattle.std.specs.Str.{bytes_eq}
use Rattle.std.proofs.lemmas.Slice.Eq.{bytes_eq-Decides}
use Rattle.syslog_value.specs.Facilities.{IsNoFacilityName, facility_name}
use Rattle.syslog_value.specs.Severities.{IsNoSeverityName, severity_name}
use Rattle.syslog_value.specs.declared.facility.Facility.{Facility}
use Rattle.syslog_value.specs.declared.facility.Facility.TheVariants as facility
use Rattle.syslog_value.specs.declared.severity.Severity.{Severity}
use Rattle.syslog_value.specs.declared.severity.Severity.TheVariants as severity
use Rattle.condition_words.specs.Names.{facilities, facility_of, severities, severity_of}

pub differ : (a b : List ℕ) → ¬ (a ≡ b) → bytes_eq a b ≡ false
differ a b n = go (bytes_eq a b) (bytes_eq-Decides a b)
  where
    go : (t : Bool) → Decides t (a ≡ b) → t ≡ false
    go true d = absurd (n (d.0 refl))
    go false d = refl

none_found : {X : Type 0} (name_of : X → List ℕ) (name : List ℕ) → ((x : X) → ¬ (name_of x ≡ name)) → (xs : List X)
    → find (λ x. bytes_eq (name_of x) name) xs ≡ None
none_found name_of name n [] = refl
none_found name_of name n (x ∷ xs) = rw (differ (name_of x) name (n x)) (none_found name_of name n xs)

own_severity : (s : Severity) → severity_of (severity_name s) ≡ Some s
own_severity severity.Emergency = refl
own_severity severity.Alert = refl
own_severity severity.Critical = refl
own_severity severity.Error = refl
own_severity severity.Warning = refl
own_severity severity.Notice = refl
own_severity severity.Informational = refl
own_severity severity.Debug = refl

pub severity_is : (name : List ℕ) (r : Option Severity) → IfSome r (λ s. severity_name s ≡ name)
    → IfNone r (IsNoSeverityName name) → r ≡ severity_of name
severity_is name (Some s) found none = sym (own_severity s) ∙ ap (λ (n : List ℕ). severity_of n) found
severity_is name None found none = sym (none_found severity_name name none severities)

own_facility : (f : Facility) → facility_of (facility_name f) ≡ Some f
own_facility facility.Kern = refl
own_facility facility.User = refl
own_facility facility.Mail = refl
own_facility facility.Daemon = refl
own_facility facility.Auth = refl
own_facility facility.Syslog = refl
own_facility facility.Lpr = refl
own_facility facility.News = refl
own_facility facility.Uucp = refl
own_facility facility.Cron = refl
own_facility facility.AuthPriv = refl
own_facility facility.Ftp = refl
own_facility facility.Ntp = refl
own_facility facility.Audit = refl
own_facility facility.Alert = refl
own_facility facility.Clock = refl
own_facility facility.Local0 = refl
own_facility facility.Local1 = refl
own_facility facility.Local2 = refl
own_facility facility.Local3 = refl
own_facility facility.Local4 = refl
own_facility facility.Local5 = refl
own_facility facility.Local6 = refl
own_facility facility.Local7 = refl

pub facility_is : (name : List ℕ) (r : Option Facility) → IfSome r (λ f. facility_name f ≡ name)
    → IfNone r (IsNoFacilityName name) → r ≡ facility_of name
facility_is name (Some f) found none = sym (own_facility f) ∙ ap (λ (n : List ℕ). facility_of n) found
facility_is name None found none = sym (none_found facility_name name none facilities)
