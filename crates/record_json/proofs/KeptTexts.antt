-- Names and timestamps, which a string has as they are.
use Rattle.std.proofs.Common.{zero, suc, ◌/◌, [], ◌∷◌, ◌++◌, ◌≡◌, ℕ, ◌+◌, ◌%◌, false, List, refl, sym, subst, arith}
use Rattle.std.specs.Prelude.{Some, ℤ}
use Rattle.std.specs.List.{AllByRecursion}
use Rattle.std.proofs.lemmas.Bool.Decides.{nat_tests}
use Rattle.std.proofs.lemmas.Grind.{common_steps}
use Rattle.json.specs.Print.{escape, escape_byte}
use Rattle.syslog_value.specs.Facilities.{facility_name}
use Rattle.syslog_value.specs.Severities.{severity_name}
use Rattle.syslog_value.specs.declared.civil.Civil.{Civil}
use Rattle.syslog_value.specs.declared.facility.Facility.{Facility}
use Rattle.syslog_value.specs.declared.facility.Facility.TheVariants as facility
use Rattle.syslog_value.specs.declared.severity.Severity.{Severity}
use Rattle.syslog_value.specs.declared.severity.Severity.TheVariants as severity
use Rattle.octet_language.proofs.Lists.{AllByRecursion-append}
use Rattle.syslog_fields.specs.Canonical.{TimeForm, civil_text}
use Rattle.syslog_fields.specs.Time.{padded}
use Rattle.record_json.specs.Texts.{IsKept, is_escaped}
use Rattle.record_json.proofs.Escaping.{kept_all}
use Rattle.record_json.proofs.StopRuns.{kept_false}

pub facility_kept : (f : Facility) → escape (facility_name f) ≡ facility_name f
unfolding escape_byte
facility_kept facility.Kern = refl
facility_kept facility.User = refl
facility_kept facility.Mail = refl
facility_kept facility.Daemon = refl
facility_kept facility.Auth = refl
facility_kept facility.Syslog = refl
facility_kept facility.Lpr = refl
facility_kept facility.News = refl
facility_kept facility.Uucp = refl
facility_kept facility.Cron = refl
facility_kept facility.AuthPriv = refl
facility_kept facility.Ftp = refl
facility_kept facility.Ntp = refl
facility_kept facility.Audit = refl
facility_kept facility.Alert = refl
facility_kept facility.Clock = refl
facility_kept facility.Local0 = refl
facility_kept facility.Local1 = refl
facility_kept facility.Local2 = refl
facility_kept facility.Local3 = refl
facility_kept facility.Local4 = refl
facility_kept facility.Local5 = refl
facility_kept facility.Local6 = refl
facility_kept facility.Local7 = refl

pub severity_kept : (s : Severity) → escape (severity_name s) ≡ severity_name s
unfolding escape_byte
severity_kept severity.Emergency = refl
severity_kept severity.Alert = refl
severity_kept severity.Critical = refl
severity_kept severity.Error = refl
severity_kept severity.Warning = refl
severity_kept severity.Notice = refl
severity_kept severity.Informational = refl
severity_kept severity.Debug = refl

digit : (n : ℕ) → IsKept (48 + n % 10)
digit n e = grind (arith, common_steps, nat_tests, e)

padded_kept : (w n : ℕ) → AllByRecursion IsKept (padded w n)
padded_kept zero n = tt
padded_kept (suc w) n =
    AllByRecursion-append IsKept (padded w (n / 10)) ((48 + n % 10) ∷ []) (padded_kept w (n / 10)) (digit n, tt)

-- one more number, behind a mark
number : (s : List ℕ) (x w n : ℕ) → is_escaped x ≡ false → AllByRecursion IsKept s
    → AllByRecursion IsKept (s ++ x ∷ padded w n)
number s x w n e h = AllByRecursion-append IsKept s (x ∷ padded w n) h (kept_false x e, padded_kept w n)

-- a date and a time
civil_kept : (c : Civil) → AllByRecursion IsKept (civil_text c)
unfolding civil_text
civil_kept c =
    let year : List ℕ = padded 4 c.year in
    let month : List ℕ = year ++ 45 ∷ padded 2 c.month in
    let day : List ℕ = month ++ 45 ∷ padded 2 c.day in
    let hour : List ℕ = day ++ 84 ∷ padded 2 c.hour in
    let minute : List ℕ = hour ++ 58 ∷ padded 2 c.minute in
    let second : List ℕ = minute ++ 58 ∷ padded 2 c.second in
    let micros : List ℕ = second ++ 46 ∷ padded 6 c.micros in
    AllByRecursion-append IsKept micros (90 ∷ [])
    (number second 46 6 c.micros refl (number minute 58 2 c.second refl (number hour 58 2 c.minute refl
    (number day 84 2 c.hour refl (number month 45 2 c.day refl (number year 45 2 c.month refl (padded_kept 4 c.year)))))))
    (kept_false 90 refl, tt)

pub time_kept : (i : ℤ) (t : List ℕ) → TimeForm (Some i) t → escape t ≡ t
time_kept i t (c, exists, e, form) = kept_all t (subst (AllByRecursion IsKept) (sym form) (civil_kept c))
