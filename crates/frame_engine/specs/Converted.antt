-- What `convert` does with each frame.
use Rattle.std.specs.Prelude.{◌≡◌, ℕ, ℤ, ◌<◌, ◌≤◌, List, [], ◌⊎◌, length, true, false, ⊤, Option, Some, None}
use Rattle.syslog_frame.specs.Frames.{IsLine, framed}
use Rattle.syslog_frame.specs.declared.framing.Framing.{Framing}
use Rattle.syslog_frame.specs.declared.framing.Framing.TheVariants.{Counted, Lf}
use Rattle.syslog_frame.specs.declared.limits.TheConstants.{FRAME_MAX}
use Rattle.syslog_value.specs.Parts.{Parts}
use Rattle.syslog_fields.specs.Canonical.{Canonical}
use Rattle.syslog_legacy.specs.declared.frame_reading.FrameReading.{FrameReading}
use Rattle.driver.specs.Effects.{Done}
use Rattle.frame_engine.specs.Handling.{Handling}
use Rattle.frame_engine.specs.Line.{line_text}
use Rattle.frame_engine.specs.Readings.{IsRecordOf, IsRefusedWith}
use Rattle.frame_engine.specs.declared.line.Line.{Line}
use Rattle.frame_engine.specs.declared.line.Line.TheVariants.{CanonicalTooLong, HasLf}

-- octets go to the output
abbrev pub goes_out : List ℕ → Done
goes_out octets = record { refused = false; output = octets; diagnostics = [] }

-- a refusal whose line is noted
abbrev pub noted_line : Line → Done
noted_line line = record { refused = true; output = []; diagnostics = line_text line }

-- a framing carries the octets: a line contains no line feed
abbrev pub Carries : Framing → List ℕ → Type 0
Carries Counted octets = ⊤
Carries Lf octets = IsLine octets

-- octets go out as one frame; or the framing does not carry them, or they are too long for a frame,
-- which is noted with the number of the frame that they came from
abbrev pub Framed : Framing → ℕ → List ℕ → Done → Type 0
Framed kind n octets d =
    (Carries kind octets × (length octets ≤ FRAME_MAX) × (d ≡ goes_out (framed kind octets)))
    ⊎ ((¬ (Carries kind octets) × (d ≡ noted_line (HasLf n)))
    ⊎ (Carries kind octets × (FRAME_MAX < length octets) × (d ≡ noted_line (CanonicalTooLong n))))

-- octets go out in a framing, or bare
abbrev pub GoesOut : Option Framing → ℕ → List ℕ → Done → Type 0
GoesOut None n octets d = d ≡ goes_out octets
GoesOut (Some kind) n octets d = Framed kind n octets d

-- a frame is read as a record, whose canonical octets go out
abbrev pub Converts : FrameReading → Option Framing → ℕ → List ℕ → Done → Type 0
Converts way to n f d =
    (r : Parts ℤ) × IsRecordOf way r f × (c : List ℕ) × Canonical r c × GoesOut to n c d

-- the canonical octets of a record go out, or it is noted why the frame is none
abbrev pub convert_handling : FrameReading → Option Framing → Handling
convert_handling way to n f d =
    Converts way to n f d
    ⊎ ((line : Line) × IsRefusedWith way n f line × (d ≡ noted_line line))
