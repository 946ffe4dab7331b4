-- What `show` writes in colors.
use Rattle.std.specs.Prelude.{◌≡◌, ◌%◌, ℕ, ℤ, List, ◌⊎◌, true}
use Rattle.syslog_value.specs.Parts.{Parts}
use Rattle.syslog_value.specs.Severities.{severity_code}
use Rattle.syslog_value.specs.declared.severity.Severity.{Severity}
use Rattle.syslog_legacy.specs.declared.frame_reading.FrameReading.{FrameReading}
use Rattle.driver.specs.Effects.{Done}
use Rattle.frame_engine.specs.Handling.{Handling}
use Rattle.frame_engine.specs.Readings.{IsRecordOf}
use Rattle.frame_engine.specs.Showing.{show_handling}
use Rattle.colored_show.specs.Coloring.{IsColored}

-- the frame is read as a record of this severity
abbrev pub HasSeverity : FrameReading → List ℕ → Severity → Type 0
HasSeverity way f severity = (r : Parts ℤ) × IsRecordOf way r f × (severity_code severity ≡ r.priority % 8)

-- what `show` does with a frame, painted with the severity of the record that it is; what is refused
-- is reported without a color
abbrev pub colored_handling : FrameReading → Handling
colored_handling way n f done =
    (plain : Done) × show_handling way n f plain
    × (((severity : Severity) × HasSeverity way f severity × IsColored severity plain done)
    ⊎ ((plain.refused ≡ true) × (done ≡ plain)))
