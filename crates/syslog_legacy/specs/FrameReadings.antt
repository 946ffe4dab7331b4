-- How a frame is read: what may be at its end is dropped first, and the rest is read under a clock, if there is one.
use Rattle.std.specs.Prelude.{ℕ, ℤ, List, false, if◌then◌else◌}
use Rattle.syslog_value.specs.Parts.{Parts}
use Rattle.syslog_frame.specs.Trimmed.{trimmed}
use Rattle.syslog_reading.specs.Faults.{FaultOf}
use Rattle.syslog_reading.specs.declared.fault.Fault.{Fault}
use Rattle.syslog_legacy.specs.ClockReadings as under
use Rattle.syslog_legacy.specs.ClockReadings.{Clock}
use Rattle.syslog_legacy.specs.declared.frame_reading.FrameReading.{FrameReading}

-- frames are read whole, under a clock
abbrev pub whole : Clock → FrameReading
whole clock = record { trim = false; clock = clock }

-- the octets of a frame that are read
abbrev pub octets_read : FrameReading → List ℕ → List ℕ
octets_read way f = if way.trim then trimmed f else f

-- the frame is read as this record
abbrev pub IsReadAs : FrameReading → Parts ℤ → List ℕ → Type 0
IsReadAs way r f = under.IsReadAs way.clock r (octets_read way f)

-- the frame is read as a legacy packet
abbrev pub IsLegacy : FrameReading → List ℕ → Type 0
IsLegacy way f = under.IsLegacy way.clock (octets_read way f)

-- the frame is a legacy packet whose message starts with the BOM and is no UTF-8 at this offset
abbrev pub IsNotUtf8At : FrameReading → ℕ → List ℕ → Type 0
IsNotUtf8At way offset f = under.IsNotUtf8At way.clock offset (octets_read way f)

-- the octets of the frame that are read have this fault, as a record of RFC 5424
abbrev pub HasFault : FrameReading → List ℕ → Fault → Type 0
HasFault way f fault = FaultOf (octets_read way f) fault
