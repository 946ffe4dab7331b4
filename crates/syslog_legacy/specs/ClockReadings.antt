-- As what octets are read: as a record of RFC 5424; or, under a clock and without the front of RFC 5424, as a legacy
-- packet.
use Rattle.std.specs.Prelude.{ℕ, ℤ, List, ◌⊎◌, Option, Some, None}
use Rattle.syslog_value.specs.Parts.{Parts}
use Rattle.syslog_reading.specs.WellFormed.{WellFormed}
use Rattle.syslog_legacy.specs.NewForm.{HasNewForm}
use Rattle.syslog_legacy.specs.Readings.{Legacy, NotUtf8At, ReadAs}
use Rattle.syslog_legacy.specs.declared.clock.LegacyClock.{LegacyClock}

-- the clock of legacy packets, if they are read at all
abbrev pub Clock : Type 0
Clock = Option LegacyClock

-- the octets are read as a legacy packet
abbrev pub IsLegacy : Clock → List ℕ → Type 0
IsLegacy None b = ⊥
IsLegacy (Some clock) b = ¬ (HasNewForm b)

-- the octets are read as this record
abbrev pub IsReadAs : Clock → Parts ℤ → List ℕ → Type 0
IsReadAs None r b = WellFormed r b
IsReadAs (Some clock) r b = (HasNewForm b × WellFormed r b) ⊎ (¬ (HasNewForm b) × Legacy clock (ReadAs r) b)

-- the octets are a legacy packet whose message starts with the BOM and is no UTF-8 at this offset
abbrev pub IsNotUtf8At : Clock → ℕ → List ℕ → Type 0
IsNotUtf8At None offset b = ⊥
IsNotUtf8At (Some clock) offset b = ¬ (HasNewForm b) × Legacy clock (NotUtf8At offset) b
