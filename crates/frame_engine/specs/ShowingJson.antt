-- The line of JSON that `show --json` prints of a record.
use Rattle.std.specs.Prelude.{◌≡◌, ℤ, List, ℕ, ◌⊎◌}
use Rattle.syslog_value.specs.Parts.{Parts}
use Rattle.syslog_legacy.specs.declared.frame_reading.FrameReading.{FrameReading}
use Rattle.record_json.specs.Objects.{JsonLine}
use Rattle.driver.specs.Effects.{Done}
use Rattle.frame_engine.specs.Converted.{goes_out, noted_line}
use Rattle.frame_engine.specs.Handling.{Handling}
use Rattle.frame_engine.specs.Readings.{IsRecordOf, IsRefusedWith}
use Rattle.frame_engine.specs.declared.line.Line.{Line}

-- the line of the record that a frame is read as goes out
abbrev pub ShowsJson : FrameReading → List ℕ → Done → Type 0
ShowsJson way f d = (r : Parts ℤ) × IsRecordOf way r f × (b : List ℕ) × JsonLine r b × (d ≡ goes_out b)

-- the line of the record that a frame is read as, or it is noted why it is none
abbrev pub show_json_handling : FrameReading → Handling
show_json_handling way n f d =
    ShowsJson way f d ⊎ ((line : Line) × IsRefusedWith way n f line × (d ≡ noted_line line))
