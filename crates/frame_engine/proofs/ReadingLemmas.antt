-- A frame is read in one way, and each reading has one output.
use Rattle.std.proofs.Common.{◌≡◌, ◌≤◌, ℕ, ℤ, List, length, sym, ap, ◌∙◌, arith, inl, inr, subst}
use Rattle.std.specs.Prelude.{Some}
use Rattle.syslog_frame.specs.declared.limits.TheConstants.{FRAME_MAX}
use Rattle.syslog_value.specs.Parts.{Parts}
use Rattle.syslog_reading.specs.WellFormed.{AddsCanonical, WellFormed}
use Rattle.syslog_reading.specs.declared.fault.Fault.{Fault}
use Rattle.syslog_grammar.proofs.OneFault.{one_fault}
use Rattle.syslog_legacy.proofs.FrameReadings.{fault_not_read, not_utf8, not_utf8_legacy, one_offset, one_reading}
use Rattle.syslog_legacy.specs.ClockReadings as under
use Rattle.syslog_legacy.specs.ClockReadings.{Clock}
use Rattle.syslog_legacy.specs.FrameReadings.{octets_read}
use Rattle.syslog_legacy.specs.declared.frame_reading.FrameReading.{FrameReading}
use Rattle.syslog_legacy.specs.NewForm.{HasNewForm}
use Rattle.syslog_legacy.specs.Readings.{Legacy, ReadAs}
use Rattle.syslog_legacy.specs.declared.clock.LegacyClock.{LegacyClock}
use Rattle.frame_engine.specs.Readings.{AddsOctets, IsReadingIn, IsReadingOf, IsRecordOf, IsRefusedWith}
use Rattle.frame_engine.specs.declared.reading.Reading.{Reading}
use Rattle.frame_engine.specs.declared.line.Line.{Line}
use Rattle.frame_engine.specs.declared.line.Line.TheVariants.{LegacyNotUtf8, Refused}

pub one_record : (way : FrameReading) (f : List ℕ) (r q : Parts ℤ) → IsRecordOf way r f → IsRecordOf way q f → r ≡ q
one_record way f r q h k = one_reading way f r q h.1 k.1

pub not_both : (way : FrameReading) (n : ℕ) (f : List ℕ) (r : Parts ℤ) (line : Line) → IsRefusedWith way n f line
    → IsRecordOf way r f → ⊥
not_both way n f r line (inl (long, e)) (few, is) = absurd (omega (arith, few, long))
not_both way n f r line (inr (inl (few, offset, stops, e))) (few', is) = not_utf8 way f r offset stops is
not_both way n f r line (inr (inr (few, form, fault, bad, e))) (few', is) = fault_not_read way f r fault form bad is

pub one_line : (way : FrameReading) (n : ℕ) (f : List ℕ) (l m : Line) → IsRefusedWith way n f l
    → IsRefusedWith way n f m
    → l ≡ m
one_line way n f l m (inl (long, e)) (inl (long', g)) = e ∙ sym g
one_line way n f l m (inl (long, e)) (inr (inl (few, j, stops', g))) = absurd (omega (arith, few, long))
one_line way n f l m (inl (long, e)) (inr (inr (few, form', y, bad', g))) = absurd (omega (arith, few, long))
one_line way n f l m (inr (inl (few, i, stops, e))) (inl (long, g)) = absurd (omega (arith, few, long))
one_line way n f l m (inr (inl (few, i, stops, e))) (inr (inl (few', j, stops', g))) =
    e ∙ ap (λ (k : ℕ). LegacyNotUtf8 n k) (one_offset way f i j stops stops') ∙ sym g
one_line way n f l m (inr (inl (few, i, stops, e))) (inr (inr (few', form, y, bad', g))) =
    absurd (form (not_utf8_legacy way f i stops))
one_line way n f l m (inr (inr (few, form, x, bad, e))) (inl (long, g)) = absurd (omega (arith, few, long))
one_line way n f l m (inr (inr (few, form, x, bad, e))) (inr (inl (few', i, stops, g))) =
    absurd (form (not_utf8_legacy way f i stops))
one_line way n f l m (inr (inr (few, form, x, bad, e))) (inr (inr (few', form', y, bad', g))) =
    e ∙ ap (λ (z : Fault). Refused n z) (one_fault (octets_read way f) x y bad bad') ∙ sym g

-- ---- octets under a clock

pub legacy_record : (clock : Clock) (k : LegacyClock) (r : Parts ℤ) (b : List ℕ) → clock ≡ Some k → ¬ (HasNewForm b)
    → Legacy k (ReadAs r) b → under.IsReadAs clock r b
legacy_record clock k r b e form is = rw e (inr (form, is))

-- the canonical octets of octets that are read as a record of RFC 5424
pub written : (clock : Clock) (b old new : List ℕ) → ((r : Parts ℤ) → WellFormed r b → under.IsReadAs clock r b)
    → AddsCanonical b old new → AddsOctets clock b old new
written clock b old new reads (r, well, adds) = (r, reads r well, adds)

-- what was read of the octets of a frame
pub frame_reading : (way : FrameReading) (f b : List ℕ) (read : Reading) → length f ≤ FRAME_MAX
    → b ≡ octets_read way f → IsReadingIn way.clock b read → IsReadingOf way f read
frame_reading way f b read few e is = (few, subst (λ (x : List ℕ). IsReadingIn way.clock x read) e is)
