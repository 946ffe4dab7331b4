-- Periods of time, and what they are called.
use Rattle.std.specs.Prelude.{◌≡◌, ℕ, ℤ, List, Option, None, Some, codes, take}
use Rattle.syslog_fields.specs.Canonical.{TimeForm}
use Rattle.archive_text.specs.Entries.{Entry}
use Rattle.archive_text.specs.declared.period.Period.{Period}
use Rattle.archive_text.specs.declared.period.Period.TheVariants.{Month, Day, Hour}

-- how many octets of a canonical timestamp name the period: YYYY-MM, YYYY-MM-DD or YYYY-MM-DDThh
abbrev pub name_length : Period → ℕ
name_length Month = 7
name_length Day = 10
name_length Hour = 13

-- what the period of an instant is called: the first octets of the canonical timestamp; without an instant "undated"
abbrev pub IsPeriodOf : Period → Option ℤ → List ℕ → Type 0
IsPeriodOf period None name = name ≡ codes "undated"
IsPeriodOf period (Some i) name =
    (time : List ℕ) × TimeForm (Some i) time × (name ≡ take (name_length period) time)

-- the entry lies in the period of this name
abbrev pub IsIn : Period → List ℕ → Entry → Type 0
IsIn period name e = IsPeriodOf period e.instant name
