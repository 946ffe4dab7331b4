-- What `show` does, in colors.
use Rattle.std.proofs.Common.{◌≡◌, List, ℕ, ℤ, inl, inr, sym, ◌∙◌}
use Rattle.std.specs.Prelude.{None, Some}
use Rattle.syslog_value.specs.Parts.{Parts}
use Rattle.syslog_value.specs.declared.severity.Severity.{Severity}
use Rattle.syslog_reading.specs.ViewParts.{IsViewOf, view_parts}
use Rattle.syslog_reading.specs.WellFormed.{WellFormed}
use Rattle.syslog_reading.specs.declared.record_view.RecordView.{RecordView}
use Rattle.syslog_reading.proofs.Laws.{same_parts}
use Rattle.syslog_legacy.specs.ClockReadings as under
use Rattle.syslog_legacy.specs.ClockReadings.{Clock}
use Rattle.syslog_legacy.specs.declared.frame_reading.FrameReading.{FrameReading}
use Rattle.driver.specs.Effects.{Adds, Done}
use Rattle.frame_engine.specs.Showing.{show_handling}
use Rattle.colored_show.specs.Coloring.{IsColored}
use Rattle.colored_show.specs.Handling.{HasSeverity, colored_handling}

-- what a view of octets shows has the priority of the record that they are
pub shown_priority : (r : Parts ℤ) (b : List ℕ) (view : RecordView) → WellFormed r b → IsViewOf b (view_parts view)
    → (view_parts view).priority ≡ r.priority
shown_priority r b view (p, spells, range, distinct, meaning) (q, spells', range', distinct', shown) =
    shown.priority ∙ sym (same_parts p q b spells spells').header.priority ∙ sym meaning.priority

-- octets that are no legacy packet are a record of RFC 5424
pub well_formed : (clock : Clock) (r : Parts ℤ) (b : List ℕ) → under.IsReadAs clock r b → ¬ (under.IsLegacy clock b)
    → WellFormed r b
well_formed None r b is new = is
well_formed (Some k) r b (inl (form, is)) new = is
well_formed (Some k) r b (inr (form, is)) new = absurd (new form)

-- a record was shown in colors
pub handled : (way : FrameReading) (n : ℕ) (f : List ℕ) (s : Severity) (plain old new : Done) → HasSeverity way f s
    → show_handling way n f plain → Adds (IsColored s plain) old new → Adds (colored_handling way n f) old new
handled way n f s plain old new has shows (done, is, e) = (done, (plain, shows, inl (s, has, is)), e)
