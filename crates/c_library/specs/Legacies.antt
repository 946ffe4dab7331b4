-- What a packet is read as under a clock, and its canonical text.
use Rattle.std.specs.Prelude.{◌≡◌, ℕ, ℤ, pos, ◌≤ℤ◌, List, ◌⊎◌, Some}
use Rattle.octet_language.specs.Language.{Language}
use Rattle.syslog_value.specs.Instants.{IsOffset}
use Rattle.syslog_value.specs.Parts.{Parts}
use Rattle.syslog_fields.specs.Canonical.{Canonical}
use Rattle.syslog_reading.specs.Faults.{FaultOf}
use Rattle.syslog_legacy.specs.ClockReadings.{IsNotUtf8At, IsReadAs}
use Rattle.syslog_legacy.specs.NewForm.{HasNewForm}
use Rattle.syslog_legacy.specs.declared.clock.Dialect.{Dialect}
use Rattle.syslog_legacy.specs.declared.clock.Dialect.TheVariants.{Bsd, Wide}
use Rattle.syslog_legacy.specs.declared.clock.LegacyClock.{LegacyClock}
use Rattle.c_library.specs.Faults.{IsTooLong, IsWithin, Tells, clock_fault, dialect_fault, memory_fault, record_fault}
use Rattle.c_library.specs.Faults.{utf8_fault}
use Rattle.c_library.specs.declared.fault.SyslogboxFault.{SyslogboxFault}

-- a year from 1 to 9998, and an offset of less than a day either way
abbrev pub IsClock : ℤ → ℤ → Type 0
IsClock year offset = (pos 1 ≤ℤ year) × (year ≤ℤ pos 9998) × IsOffset offset

-- the clock of a year and an offset, for packets of a dialect
pub record IsClockOf (dialect : Dialect) (year offset : ℤ) (clock : LegacyClock) : Type 0 where
  pub year_is : pos clock.year ≡ year
  pub offset_is : clock.offset_minutes ≡ offset
  pub dialect_is : clock.dialect ≡ dialect

-- the canonical text of the record that a packet is read as
abbrev pub LegacyOf : Dialect → ℤ → ℤ → List ℕ → Language
LegacyOf dialect year offset b text =
    IsWithin b × (clock : LegacyClock) × IsClockOf dialect year offset clock
    × (r : Parts ℤ) × IsReadAs (Some clock) r b × Canonical r text

-- a packet is too long; or one with the front of RFC 5424 is no record of it; or one without has a message that is no
-- UTF-8
abbrev pub IsUnreadable : LegacyClock → List ℕ → SyslogboxFault → Type 0
IsUnreadable clock b told =
    IsTooLong b told
    ⊎ (IsWithin b
    × ((HasNewForm b × Tells record_fault (FaultOf b) told) ⊎ Tells utf8_fault (λ at. IsNotUtf8At (Some clock) at b) told))

-- why a packet has no canonical text: there is no such clock; under the clock it is no record that is read; or there is no memory
abbrev pub IsNoLegacy : Dialect → ℤ → ℤ → List ℕ → SyslogboxFault → Type 0
IsNoLegacy dialect year offset b told =
    (¬ (IsClock year offset) × (told ≡ clock_fault))
    ⊎ (((clock : LegacyClock) × IsClockOf dialect year offset clock × IsUnreadable clock b told) ⊎ (told ≡ memory_fault))

-- ---- dialects by their numbers

-- the number of a dialect in include/syslogbox.h
abbrev pub dialect_number : Dialect → ℤ
dialect_number Bsd = pos 1
dialect_number Wide = pos 2

-- the canonical text of the record that a packet in the dialect of this number is read as
abbrev pub PacketOf : ℤ → ℤ → ℤ → List ℕ → Language
PacketOf number year offset b text =
    (dialect : Dialect) × (number ≡ dialect_number dialect) × LegacyOf dialect year offset b text

-- why there is none: there is no such dialect; or in it the packet has no canonical text
abbrev pub IsNoPacket : ℤ → ℤ → ℤ → List ℕ → SyslogboxFault → Type 0
IsNoPacket number year offset b told =
    (((dialect : Dialect) → ¬ (number ≡ dialect_number dialect)) × (told ≡ dialect_fault))
    ⊎ ((dialect : Dialect) × (number ≡ dialect_number dialect) × IsNoLegacy dialect year offset b told)
