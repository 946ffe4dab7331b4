-- The canonical text of a record that octets are.
use Rattle.std.specs.Prelude.{◌≡◌, ℕ, ℤ, List, ◌⊎◌}
use Rattle.octet_language.specs.Language.{Language}
use Rattle.syslog_value.specs.Parts.{Parts}
use Rattle.syslog_fields.specs.Canonical.{Canonical}
use Rattle.syslog_reading.specs.WellFormed.{WellFormed}
use Rattle.c_library.specs.Faults.{IsNotRead, IsWithin, memory_fault}
use Rattle.c_library.specs.declared.fault.SyslogboxFault.{SyslogboxFault}

-- the canonical text of the record that the octets are
abbrev pub CanonicalOf : List ℕ → Language
CanonicalOf b text = IsWithin b × (r : Parts ℤ) × WellFormed r b × Canonical r text

-- the octets are no record that is read, and this is told of them; or an allocation was refused
abbrev pub IsNoRecord : List ℕ → SyslogboxFault → Type 0
IsNoRecord b told = IsNotRead b told ⊎ (told ≡ memory_fault)
