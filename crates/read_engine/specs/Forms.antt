-- The forms in which the records of a store are written.
use Rattle.std.specs.Prelude.{◌≡◌, ◌⊎◌, Bool, None, Some, Result, Ok, Err}
use Rattle.disk.specs.States.{Files}
use Rattle.driver.specs.Effects.{Done}
use Rattle.driver.specs.Sessions.{Meaning}
use Rattle.driver.specs.declared.stopped.Stopped.{Stopped as Reason}
use Rattle.driver.specs.declared.stopped.Stopped.TheVariants.{Memory}
use Rattle.syslog_frame.specs.declared.framing.Framing.TheVariants.{Counted, Lf}
use Rattle.syslog_legacy.specs.FrameReadings.{whole}
use Rattle.colored_show.specs.Handling.{colored_handling}
use Rattle.frame_engine.specs.Converted.{convert_handling, noted_line}
use Rattle.frame_engine.specs.Handling.{AtEnd, Handling, nothing_at_end}
use Rattle.frame_engine.specs.Sessions.{handler_meaning}
use Rattle.frame_engine.specs.Showing.{show_handling}
use Rattle.frame_engine.specs.ShowingJson.{show_json_handling}
use Rattle.frame_engine.specs.declared.input_framing.InputFraming.TheVariants.{Stream}
use Rattle.frame_engine.specs.declared.line.Line.{Line}
use Rattle.archive_sets.specs.declared.range.InRange.{InRange}
use Rattle.session_output.specs.Runs.{Outputs}
use Rattle.store_reading.specs.declared.fault.ReadFault.{ReadFault}
use Rattle.read_engine.specs.Readings.{ReadsInto, ReadsThrough}
use Rattle.read_engine.specs.declared.options.ReadForm.{ReadForm}
use Rattle.read_engine.specs.declared.options.ReadForm.TheVariants.{Archive, ColoredShow, Json, Lines, Show}

-- what a handler makes of a stream of counted frames, as an archive is
abbrev pub counted_meaning : Handling → (Line → Done) → AtEnd → Meaning
counted_meaning D T E = handler_meaning D T E (Stream Counted)

-- memory ran out before anything was read
pub record IsWithoutMemory (old new : Outputs) (reading : Result (Unit {0}) ReadFault) (writing : Result Bool Reason) :
    Type 0 where
  pub same : new ≡ old
  pub reading_is : reading ≡ Ok tt
  pub writing_is : writing ≡ Err Memory

-- the archive of what is chosen was given to a handler of its frames
abbrev pub IsFormed : Meaning → Meaning → Type 0 → Type 0 → Files → InRange → Outputs → Outputs
    → Result (Unit {0}) ReadFault → Result Bool Reason → Type 0
IsFormed M Then tells failed files range old new reading writing =
    IsWithoutMemory old new reading writing ⊎ ReadsThrough M Then tells failed files range old new reading writing

-- what the records of an archive are as lines, as JSON, and as fields
abbrev pub lines_meaning : Meaning
lines_meaning = counted_meaning (convert_handling (whole None) (Some Lf)) noted_line nothing_at_end

abbrev pub json_meaning : Meaning
json_meaning = counted_meaning (show_json_handling (whole None)) noted_line nothing_at_end

abbrev pub show_meaning : Meaning
show_meaning = counted_meaning (show_handling (whole None)) noted_line nothing_at_end

abbrev pub colored_meaning : Meaning
colored_meaning = counted_meaning (colored_handling (whole None)) noted_line nothing_at_end

-- what is chosen by a session was written in a form
abbrev pub WritesChosen : ReadForm → Meaning → Type 0 → Type 0 → Files → InRange → Outputs → Outputs
    → Result (Unit {0}) ReadFault → Result Bool Reason → Type 0
WritesChosen Archive M tells failed files range old new reading writing =
    ReadsInto M tells failed files range old new reading writing
WritesChosen Lines M tells failed files range old new reading writing =
    IsFormed M lines_meaning tells failed files range old new reading writing
WritesChosen Json M tells failed files range old new reading writing =
    IsFormed M json_meaning tells failed files range old new reading writing
WritesChosen Show M tells failed files range old new reading writing =
    IsFormed M show_meaning tells failed files range old new reading writing
WritesChosen ColoredShow M tells failed files range old new reading writing =
    IsFormed M colored_meaning tells failed files range old new reading writing
