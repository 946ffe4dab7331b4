-- What `check` does with each frame.
use Rattle.std.specs.Prelude.{◌≡◌, ℤ, [], ◌⊎◌, true}
use Rattle.syslog_value.specs.Parts.{Parts}
use Rattle.syslog_legacy.specs.declared.frame_reading.FrameReading.{FrameReading}
use Rattle.frame_engine.specs.Converted.{goes_out}
use Rattle.driver.specs.Effects.{Done}
use Rattle.frame_engine.specs.Handling.{Handling}
use Rattle.frame_engine.specs.Line.{line_text}
use Rattle.frame_engine.specs.Readings.{IsRecordOf, IsRefusedWith}
use Rattle.frame_engine.specs.declared.line.Line.{Line}
use Rattle.frame_engine.specs.declared.line.Line.TheVariants.{Accepted}

-- a refusal whose line is output
abbrev pub refused_line : Line → Done
refused_line line = record { refused = true; output = line_text line; diagnostics = [] }

-- one line for each frame: a record, or why it is none
abbrev pub check_handling : FrameReading → Handling
check_handling way n f d =
    (((r : Parts ℤ) × IsRecordOf way r f) × (d ≡ goes_out (line_text (Accepted n))))
    ⊎ ((line : Line) × IsRefusedWith way n f line × (d ≡ refused_line line))
