-- As what a frame is read, and why it is no record.
use Rattle.std.specs.Prelude.{◌≡◌, ◌≤◌, ◌<◌, ℕ, ℤ, List, ◌⊎◌, Option, None, Some, length}
use Rattle.syslog_frame.specs.declared.limits.TheConstants.{FRAME_MAX}
use Rattle.syslog_value.specs.Parts.{Parts}
use Rattle.syslog_fields.specs.Appending.{Adds}
use Rattle.syslog_fields.specs.Canonical.{Canonical}
use Rattle.syslog_reading.specs.Faults.{FaultOf}
use Rattle.syslog_reading.specs.ViewParts.{IsViewOf, view_parts}
use Rattle.syslog_reading.specs.WellFormed.{WellFormed}
use Rattle.syslog_reading.specs.declared.fault.Fault.{Fault}
use Rattle.syslog_legacy.specs.ClockReadings as under
use Rattle.syslog_legacy.specs.ClockReadings.{Clock}
use Rattle.syslog_legacy.specs.FrameReadings.{HasFault, IsLegacy, IsNotUtf8At, IsReadAs, octets_read}
use Rattle.syslog_legacy.specs.Views.{legacy_view_parts}
use Rattle.syslog_legacy.specs.declared.frame_reading.FrameReading.{FrameReading}
use Rattle.frame_engine.specs.declared.line.Line.{Line}
use Rattle.frame_engine.specs.declared.line.Line.TheVariants.{LegacyNotUtf8, Refused, TooLong}
use Rattle.frame_engine.specs.declared.reading.Reading.{Reading}
use Rattle.frame_engine.specs.declared.reading.Reading.TheVariants as reading

-- a frame within the limit is read as this record
abbrev pub IsRecordOf : FrameReading → Parts ℤ → List ℕ → Type 0
IsRecordOf way r f = (length f ≤ FRAME_MAX) × IsReadAs way r f

-- the line on a frame that is no record: it is too long; or a legacy packet whose message is no
-- UTF-8 at this offset; or no legacy packet, and no record of RFC 5424 because of this fault
abbrev pub IsRefusedWith : FrameReading → ℕ → List ℕ → Line → Type 0
IsRefusedWith way n f line =
    ((FRAME_MAX < length f) × (line ≡ TooLong n))
    ⊎ (((length f ≤ FRAME_MAX) × (offset : ℕ) × IsNotUtf8At way offset f
    × (line ≡ LegacyNotUtf8 n offset))
    ⊎ ((length f ≤ FRAME_MAX) × ¬ (IsLegacy way f)
    × (fault : Fault) × HasFault way f fault × (line ≡ Refused n fault)))

-- octets are read as a record of RFC 5424, if they are one, and not as a legacy packet
abbrev pub IsReadNew : Clock → List ℕ → Type 0
IsReadNew clock b = ((r : Parts ℤ) → WellFormed r b → under.IsReadAs clock r b) × ¬ (under.IsLegacy clock b)

-- what was read of octets shows the record that they are read as under a clock
abbrev pub IsReadingIn : Clock → List ℕ → Reading → Type 0
IsReadingIn clock b (reading.Record view) = IsReadNew clock b × IsViewOf b (view_parts view)
IsReadingIn clock b (reading.Legacy view) =
    under.IsLegacy clock b × under.IsReadAs clock (legacy_view_parts view) b

-- what was read shows the record that the frame is read as
abbrev pub IsReadingOf : FrameReading → List ℕ → Reading → Type 0
IsReadingOf way f read = (length f ≤ FRAME_MAX) × IsReadingIn way.clock (octets_read way f) read

-- the canonical octets of the record that the frame is read as follow the old octets
abbrev pub AddsRecord : FrameReading → List ℕ → List ℕ → List ℕ → Type 0
AddsRecord way f old new = (r : Parts ℤ) × IsRecordOf way r f × Adds (Canonical r) old new

-- the canonical octets of the record that the frame is read as follow the old octets; or the line says why there is
-- none, and nothing does
abbrev pub PutsReading : FrameReading → ℕ → List ℕ → List ℕ → List ℕ → Option Line → Type 0
PutsReading way n f old new None = AddsRecord way f old new
PutsReading way n f old new (Some line) = IsRefusedWith way n f line × (new ≡ old)

-- ---- of the octets that are read, under a clock

-- the line on octets that are no record
abbrev pub IsNoRecord : Clock → ℕ → List ℕ → Line → Type 0
IsNoRecord clock n b line =
    ((offset : ℕ) × under.IsNotUtf8At clock offset b × (line ≡ LegacyNotUtf8 n offset))
    ⊎ (¬ (under.IsLegacy clock b) × (fault : Fault) × FaultOf b fault × (line ≡ Refused n fault))

-- their record's canonical octets follow the old octets
abbrev pub AddsOctets : Clock → List ℕ → List ℕ → List ℕ → Type 0
AddsOctets clock b old new = (r : Parts ℤ) × under.IsReadAs clock r b × Adds (Canonical r) old new

-- their record's canonical octets follow the old octets; or the line says why there is none, and nothing does
abbrev pub PutsOctets : Clock → ℕ → List ℕ → List ℕ → List ℕ → Option Line → Type 0
PutsOctets clock n b old new None = AddsOctets clock b old new
PutsOctets clock n b old new (Some line) = IsNoRecord clock n b line × (new ≡ old)
