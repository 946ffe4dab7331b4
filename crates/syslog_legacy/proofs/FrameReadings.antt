-- A frame is read in one way.
use Rattle.std.proofs.Common.{◌≡◌, ◌≤◌, ℕ, List, Bool, true, false, length, refl, arith}
use Rattle.std.specs.Prelude.{ℤ, if◌then◌else◌}
use Rattle.syslog_value.specs.Parts.{Parts}
use Rattle.syslog_frame.specs.Trimmed.{trimmed}
use Rattle.syslog_frame.proofs.Trimming.{trimmed_within}
use Rattle.syslog_reading.specs.declared.fault.Fault.{Fault}
use Rattle.syslog_legacy.proofs.ClockReadings as under
use Rattle.syslog_legacy.specs.FrameReadings.{HasFault, IsLegacy, IsNotUtf8At, IsReadAs, octets_read}
use Rattle.syslog_legacy.specs.declared.frame_reading.FrameReading.{FrameReading}

-- no more octets are read than there are
pub read_within : (way : FrameReading) (f : List ℕ) → length (octets_read way f) ≤ length f
read_within way f = within way.trim where
  within : (trim : Bool) → length (if trim then trimmed f else f) ≤ length f
  within true = trimmed_within f
  within false = omega arith

pub one_reading : (way : FrameReading) (f : List ℕ) (r q : Parts ℤ) → IsReadAs way r f → IsReadAs way q f → r ≡ q
one_reading way f r q a b = under.one_reading way.clock (octets_read way f) r q a b

pub one_offset : (way : FrameReading) (f : List ℕ) (m n : ℕ) → IsNotUtf8At way m f → IsNotUtf8At way n f → m ≡ n
one_offset way f m n a b = under.one_offset way.clock (octets_read way f) m n a b

pub not_utf8 : (way : FrameReading) (f : List ℕ) (r : Parts ℤ) (offset : ℕ) → IsNotUtf8At way offset f
    → IsReadAs way r f → ⊥
not_utf8 way f r offset stops is = under.not_utf8 way.clock (octets_read way f) r offset stops is

pub fault_not_read : (way : FrameReading) (f : List ℕ) (r : Parts ℤ) (fault : Fault) → ¬ (IsLegacy way f)
    → HasFault way f fault → IsReadAs way r f → ⊥
fault_not_read way f r fault form bad is = under.fault_not_read way.clock (octets_read way f) r fault form bad is

pub not_utf8_legacy : (way : FrameReading) (f : List ℕ) (offset : ℕ) → IsNotUtf8At way offset f → IsLegacy way f
not_utf8_legacy way f offset stops = under.not_utf8_legacy way.clock (octets_read way f) offset stops
