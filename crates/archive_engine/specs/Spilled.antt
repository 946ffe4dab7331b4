-- What `archive` does by way of a set that may be larger than memory.
use Rattle.std.specs.Prelude.{◌≡◌, ◌⊎◌, ℕ, List, [], ◌++◌, Option, Some, None, Result, MatchResult, codes}
use Rattle.std.specs.Io.KnownBytes.{Consumes}
use Rattle.octet_devices.specs.Device.{OutputState}
use Rattle.octet_devices.specs.Transfers.{ReadsFew, WroteAll}
use Rattle.syslog_legacy.specs.declared.frame_reading.FrameReading.{FrameReading}
use Rattle.archive_text.specs.Entries.{Entry}
use Rattle.archive_text.specs.Text.{text_of}
use Rattle.archive_spill.specs.Writing.{WroteLess, WrotePrefix}
use Rattle.driver.specs.Devices.{Devices, InputFailed, IsEndless, IsLeft, OutputFailed, Reports}
use Rattle.driver.specs.Effects.{Done, status_of}
use Rattle.driver.specs.Run.{WritesPrefix, line_of, stop_status}
use Rattle.driver.specs.Sessions.{Meaning}
use Rattle.driver.specs.declared.status.TheConstants.{FAULT}
use Rattle.driver.specs.declared.stopped.Stopped.TheVariants.{Diagnostics, Endless, Memory, Read, Write}
use Rattle.frame_engine.specs.Converted.{noted_line}
use Rattle.frame_engine.specs.Sessions.{input_meaning}
use Rattle.frame_engine.specs.declared.input_framing.InputFraming.{InputFraming}
use Rattle.archive_engine.specs.Archived.{IsArchiveOf, archive_handling, archive_meaning}
use Rattle.archive_engine.specs.declared.spill_stop.SpillStop.{SpillStop}
use Rattle.archive_engine.specs.declared.spill_stop.SpillStop.TheVariants.{Run, Spill}

-- the lines on an input: on its frames, and on its end
abbrev pub lines_meaning : FrameReading → InputFraming → Meaning
lines_meaning way framing = input_meaning (archive_handling way) noted_line framing

-- of the text of the archive of an input this was written
abbrev pub OfArchive : (OutputState → OutputState → List ℕ → Type 0) → FrameReading → InputFraming → List ℕ
    → OutputState → OutputState → Type 0
OfArchive W way framing input old new = (es : List Entry) × IsArchiveOf way framing input es × W old new (text_of es)

-- the lines on the whole input were written; and of its archive, where that can be told, this
pub record WroteLines (W : OutputState → OutputState → List ℕ → Type 0) (told : Type 0) (way : FrameReading)
    (framing : InputFraming) (line : List ℕ) (old new : Devices) : Type 0
  where
    pub input : List ℕ
    pub lines : Done
    pub is_input : IsLeft old.input.left input
    pub means : (lines_meaning way framing).whole input lines
    pub archived : told → OfArchive W way framing input old.output new.output
    pub to_diagnostics : WroteAll old.diagnostics new.diagnostics (lines.diagnostics ++ line)

-- exactly the archive of the input was written, and the lines on it
pub record AnswersSpilled (told : Type 0) (way : FrameReading) (framing : InputFraming) (old new : Devices) (status : ℕ)
    : Type 0
  where
    pub wrote : WroteLines WroteAll told way framing [] old new
    pub status_is : status ≡ status_of wrote.lines
    pub no_failure : new.input.failures ≡ old.input.failures

-- nothing was written but the lines on the octets that were read, and then a line
pub record WroteNoArchive (P : List ℕ → Done → Type 0) (line : List ℕ) (old new : Devices) : Type 0 where
  pub given : List ℕ
  pub lines : Done
  pub consumed : Consumes old.input.left new.input.left given
  pub means : P given lines
  pub to_output : WroteAll old.output new.output []
  pub to_diagnostics : WroteAll old.diagnostics new.diagnostics (lines.diagnostics ++ line)

-- memory ran out or the spill failed: before the archive was written, or behind a prefix of it
abbrev pub StopsShort : Type 0 → FrameReading → InputFraming → List ℕ → Devices → Devices → Type 0
StopsShort told way framing line old new =
    (new.input.failures ≡ old.input.failures)
    × (WroteNoArchive (lines_meaning way framing).part line old new
    ⊎ WroteLines WrotePrefix told way framing line old new)

-- the cause of a stop, and what was written
abbrev pub IsSpillStopped : SpillStop → Type 0 → FrameReading → InputFraming → List ℕ → Devices → Devices → Type 0
IsSpillStopped (Run Read) told way framing line old new =
    InputFailed old.input new.input × WroteNoArchive (lines_meaning way framing).so_far line old new
IsSpillStopped (Run Endless) told way framing line old new =
    IsEndless old.input new.input × WroteNoArchive (lines_meaning way framing).so_far line old new
IsSpillStopped (Run Write) told way framing line old new = WroteLines WroteLess told way framing line old new
IsSpillStopped (Run Diagnostics) told way framing line old new = OutputFailed old.diagnostics new.diagnostics
IsSpillStopped (Run Memory) told way framing line old new = StopsShort told way framing line old new
IsSpillStopped Spill told way framing line old new = StopsShort told way framing line old new

-- the last line of the diagnostics
abbrev pub spill_line : SpillStop → List ℕ
spill_line (Run stop) = line_of stop
spill_line Spill = codes "spill fault\n"

-- the exit status of a stop
abbrev pub spill_status : SpillStop → ℕ
spill_status (Run stop) = stop_status stop
spill_status Spill = FAULT

-- how a run ended: with an answer, or by a stop
abbrev pub SpillEndsAs : Option SpillStop → Type 0 → FrameReading → InputFraming → Devices → Devices → ℕ → Type 0
SpillEndsAs None told way framing old new status = AnswersSpilled told way framing old new status
SpillEndsAs (Some stop) told way framing old new status =
    (status ≡ spill_status stop) × IsSpillStopped stop told way framing (spill_line stop) old new

-- what a run does, whatever the devices and the spill do. What is said of the archive is so where it can be told: where
-- the spill reports its octets, and the set was empty
pub record RanSpilled (told : Type 0) (way : FrameReading) (framing : InputFraming) (old new : Devices) (status : ℕ)
    : Type 0
  where
    pub ending : Option SpillStop
    pub outcome : SpillEndsAs ending told way framing old new status
    pub begins : told → WritesPrefix (archive_meaning way framing) old new
    pub few : ReadsFew old.input new.input

-- what a run does before its last line
pub record PumpedSpilled (told : Type 0) (way : FrameReading) (framing : InputFraming) (old new : Devices)
    (r : Result ℕ SpillStop) : Type 0
  where
    pub outcome : MatchResult r (λ status. AnswersSpilled told way framing old new status)
        (λ stop. IsSpillStopped stop told way framing [] old new)
    pub begins : told → WritesPrefix (archive_meaning way framing) old new
    pub few : ReadsFew old.input new.input

-- of the text of a set this was written where a stop ended that
abbrev pub StopsFinish : SpillStop → OutputState → OutputState → List ℕ → Type 0
StopsFinish (Run Write) old new text = WroteLess old new text
StopsFinish (Run Memory) old new text = WrotePrefix old new text
StopsFinish (Run Read) old new text = ⊥
StopsFinish (Run Endless) old new text = ⊥
StopsFinish (Run Diagnostics) old new text = ⊥
StopsFinish Spill old new text = WrotePrefix old new text

-- a set was written: all of its text; or a part of it, and the stop says why
abbrev pub FinishesAs : OutputState → OutputState → List ℕ → Result ℕ SpillStop → Type 0
FinishesAs old new text r = MatchResult r (λ _. WroteAll old new text) (λ stop. StopsFinish stop old new text)

-- the stops of a set that is written
abbrev pub IsOfSet : SpillStop → Type 0
IsOfSet (Run Write) = Unit {0}
IsOfSet (Run Memory) = Unit {0}
IsOfSet (Run Read) = ⊥
IsOfSet (Run Endless) = ⊥
IsOfSet (Run Diagnostics) = ⊥
IsOfSet Spill = Unit {0}

-- what is told of a stop
abbrev pub ClosesSpilled : SpillStop → OutputState → OutputState → ℕ → Type 0
ClosesSpilled (Run Diagnostics) old new result = (result ≡ FAULT) × (new ≡ old)
ClosesSpilled stop old new result = Reports (spill_line stop) (spill_status stop) old new result
