-- The records of an archive that meet conditions.
use Rattle.std.specs.Prelude.{◌≡◌, ◌≢◌, ◌⊎◌, ℕ, ℤ, ◌<◌, List, [], Bool, true, Option, Some, None, IfSome, ◌↔◌}
use Rattle.syslog_value.specs.Severities.{severity_code}
use Rattle.syslog_value.specs.declared.severity.Severity.{Severity}
use Rattle.archive_text.specs.Entries.{Entry}
use Rattle.archive_sets.specs.Conditions.{IsInRange}
use Rattle.archive_sets.specs.Fields.{HasWordAt, IsAsSevere, IsOfRecord}
use Rattle.archive_sets.specs.Selections.{IsSelection}
use Rattle.archive_sets.specs.declared.word_field.WordField.{WordField}
use Rattle.archive_sets.specs.declared.word_field.WordField.TheVariants.{Hostname, AppName}
use Rattle.c_library.specs.Building.{IsTimeOf, IsTimeRefused}
use Rattle.c_library.specs.Faults.{field_fault}
use Rattle.c_library.specs.Unions.{IsArchiveOf, IsNoArchive}
use Rattle.c_library.specs.declared.fault.SyslogboxFault.{SyslogboxFault}
use Rattle.c_library.specs.declared.select.SyslogboxCondition.{SyslogboxCondition}

-- the text of the archive of the records that meet a condition
pub record SelectedBy (meets : Entry → Type 0) (archive text : List ℕ) : Type 0 where
  pub entries : List Entry
  pub selected : List Entry
  pub archive_is : IsArchiveOf entries archive
  pub selection : IsSelection meets entries selected
  pub text_is : IsArchiveOf selected text

-- a severity is asked for if the mark of it is not 0
abbrev pub IsSeverityOf : ℕ → ℕ → Option Severity → Type 0
IsSeverityOf has severity None = has ≡ 0
IsSeverityOf has severity (Some asked) = (has ≢ 0) × (severity_code asked ≡ severity)

abbrev pub IsSeverityRefused : ℕ → ℕ → SyslogboxFault → Type 0
IsSeverityRefused has severity told = (has ≢ 0) × (7 < severity) × (told ≡ field_fault 1 0)

-- a record has this word in a field, if the word has octets
abbrev pub HasAsked : WordField → List ℕ → List ℕ → Type 0
HasAsked field word b = (word ≡ []) ⊎ IsOfRecord (HasWordAt field (Some word)) b

-- what is asked for
pub record Asked : Type 0 where
  pub from : Option ℤ
  pub to : Option ℤ
  pub undated : Bool
  pub severity : Option Severity

pub record IsConditionOf (c : SyslogboxCondition) (a : Asked) : Type 0 where
  pub from_is : IsTimeOf c.has_from c.from a.from
  pub to_is : IsTimeOf c.has_to c.to a.to
  pub undated_is : (a.undated ≡ true) ↔ (c.undated ≢ 0)
  pub severity_is : IsSeverityOf c.has_severity c.severity a.severity

-- an entry meets all of it
abbrev pub MeetsAsked : SyslogboxCondition → Asked → Entry → Type 0
MeetsAsked c a e =
    IsInRange a.from a.to a.undated e.instant
    × (IfSome a.severity (λ severity. IsOfRecord (IsAsSevere severity) e.octets)
    × (HasAsked Hostname c.hostname.now e.octets × HasAsked AppName c.app_name.now e.octets))

-- the text of the archive of the records that meet the conditions
abbrev pub SelectionOf : SyslogboxCondition → List ℕ → List ℕ → Type 0
SelectionOf c archive text = (a : Asked) × IsConditionOf c a × SelectedBy (MeetsAsked c a) archive text

-- a bound or the severity is refused, or the text is no archive
abbrev pub IsNoSelection : SyslogboxCondition → List ℕ → SyslogboxFault → Type 0
IsNoSelection c archive told =
    IsTimeRefused c.has_from c.from told
    ⊎ (IsTimeRefused c.has_to c.to told
    ⊎ (IsSeverityRefused c.has_severity c.severity told ⊎ IsNoArchive 0 archive told))
