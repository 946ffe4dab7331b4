-- Octets are read in one way.
use Rattle.std.proofs.Common.{◌≡◌, ℕ, List, inl, inr}
use Rattle.std.specs.Prelude.{ℤ, Some, None}
use Rattle.syslog_value.specs.Parts.{Parts}
use Rattle.syslog_reading.proofs.Excluded.{fault_excludes}
use Rattle.syslog_reading.proofs.Laws.{one_meaning}
use Rattle.syslog_reading.specs.Faults.{FaultOf}
use Rattle.syslog_reading.specs.declared.fault.Fault.{Fault}
use Rattle.syslog_legacy.specs.ClockReadings.{Clock, IsLegacy, IsNotUtf8At, IsReadAs}
use Rattle.syslog_legacy.specs.Readings.{NotUtf8At, ReadAs}
use Rattle.syslog_legacy.proofs.OneAnswer.{legacy_one}

same_read : (r q : Parts ℤ) → ReadAs r ≡ ReadAs q → r ≡ q
same_read r q e = cc

same_offset : (m n : ℕ) → NotUtf8At m ≡ NotUtf8At n → m ≡ n
same_offset m n e = cc

-- they are one record
pub one_reading : (clock : Clock) (f : List ℕ) (r q : Parts ℤ) → IsReadAs clock r f → IsReadAs clock q f → r ≡ q
one_reading None f r q a b = one_meaning r q f a b
one_reading (Some k) f r q (inl a) (inl b) = one_meaning r q f a.1 b.1
one_reading (Some k) f r q (inl a) (inr b) = absurd (b.0 a.0)
one_reading (Some k) f r q (inr a) (inl b) = absurd (a.0 b.0)
one_reading (Some k) f r q (inr a) (inr b) = same_read r q (legacy_one k (ReadAs r) (ReadAs q) f a.1 b.1)

-- a message stops to be UTF-8 at one offset
pub one_offset : (clock : Clock) (f : List ℕ) (m n : ℕ) → IsNotUtf8At clock m f → IsNotUtf8At clock n f → m ≡ n
one_offset None f m n a b = absurd a
one_offset (Some k) f m n a b = same_offset m n (legacy_one k (NotUtf8At m) (NotUtf8At n) f a.1 b.1)

-- and then they are no record
pub not_utf8 : (clock : Clock) (f : List ℕ) (r : Parts ℤ) (offset : ℕ) → IsNotUtf8At clock offset f → IsReadAs clock r f
    → ⊥
not_utf8 None f r offset stops is = absurd stops
not_utf8 (Some k) f r offset stops (inl is) = stops.0 is.0
not_utf8 (Some k) f r offset stops (inr is) = let e = legacy_one k (ReadAs r) (NotUtf8At offset) f is.1 stops.1 in
    absurd (cc)

-- nor are octets with a fault, unless they are a legacy packet
pub fault_not_read : (clock : Clock) (f : List ℕ) (r : Parts ℤ) (fault : Fault) → ¬ (IsLegacy clock f) → FaultOf f fault
    → IsReadAs clock r f → ⊥
fault_not_read None f r fault form bad is = fault_excludes f fault r bad is
fault_not_read (Some k) f r fault form bad (inl is) = fault_excludes f fault r bad is.1
fault_not_read (Some k) f r fault form bad (inr is) = form is.0

-- and such octets are a legacy packet
pub not_utf8_legacy : (clock : Clock) (f : List ℕ) (offset : ℕ) → IsNotUtf8At clock offset f → IsLegacy clock f
not_utf8_legacy None f offset stops = absurd stops
not_utf8_legacy (Some k) f offset stops = stops.0
