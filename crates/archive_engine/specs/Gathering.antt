-- What frames left in a set, and the lines on them.
use Rattle.std.specs.Prelude.{◌≡◌, ◌↔◌, ◌≤◌, ℕ, ℤ, List, [], ◌∷◌, ◌++◌, length, Bool, Result, MatchResult}
use Rattle.std.specs.Io.KnownBytes.{Consumes}
use Rattle.octet_devices.specs.Device.{InputState, OutputState}
use Rattle.octet_devices.specs.Transfers.{ReadsFew, WroteAll}
use Rattle.syslog_value.specs.Parts.{Parts}
use Rattle.syslog_frame.specs.Scan.{Scan}
use Rattle.syslog_frame.specs.declared.framing.Framing.{Framing}
use Rattle.syslog_frame.specs.declared.limits.TheConstants.{FRAME_MAX}
use Rattle.syslog_legacy.specs.FrameReadings.{IsReadAs}
use Rattle.syslog_legacy.specs.declared.frame_reading.FrameReading.{FrameReading}
use Rattle.archive_text.specs.Entries.{Entry, Has, IsEntryOf}
use Rattle.archive_text.specs.Text.{IsArchive}
use Rattle.archive_text.specs.declared.limits.TheConstants.{ENTRY_MAX}
use Rattle.archive_sorting.specs.Records.{entries_kept}
use Rattle.archive_sorting.specs.Settled.{HaveSame}
use Rattle.archive_sorting.specs.declared.unsorted.UnsortedRecords.{UnsortedRecords}
use Rattle.syslog_collect.specs.Frames.{IsSpelled}
use Rattle.driver.specs.Devices.{InputFailed, IsEndless, IsLeft, OutputFailed}
use Rattle.driver.specs.Effects.{Done, nothing, then_done, written}
use Rattle.driver.specs.declared.session.Flow.{Flow}
use Rattle.driver.specs.declared.session.Flow.TheVariants.{Continue, Finished}
use Rattle.driver.specs.declared.stopped.Stopped.TheVariants.{Diagnostics, Endless, Memory, Read, Write}
use Rattle.frame_engine.specs.Converted.{noted_line}
use Rattle.frame_engine.specs.Handling.{AtEnd}
use Rattle.frame_engine.specs.Sessions.{EndsInput, GoesOn}
use Rattle.frame_engine.specs.Streams.{HasHandled, HasPart}
use Rattle.frame_engine.specs.declared.input_framing.InputFraming.TheVariants.{Stream}
use Rattle.archive_engine.specs.Archived.{archive_handling}
use Rattle.archive_engine.specs.declared.gathering.Gathering.{Gathering}
use Rattle.archive_engine.specs.declared.spill_stop.SpillStop.{SpillStop}
use Rattle.archive_engine.specs.declared.spill_stop.SpillStop.TheVariants.{Run, Spill}

-- a set holds the entries of the records as which frames are read, and no other; what it holds is told by H
pub record Gathered {S : Type 0} (H : S → List Entry → Type 0) (way : FrameReading) (s : S) (frames : List (List ℕ))
    : Type 0
  where
    pub entries : List Entry
    pub archive : IsArchive ENTRY_MAX entries
    pub holds : H s entries
    pub members : (x : Entry) → Has entries x ↔ IsSpelled way frames x

-- a set to which the record as which a frame is read was added
pub record GathersFrame {S : Type 0} (H : S → List Entry → Type 0) (way : FrameReading) (s : S) (f : List ℕ)
    (old : List Entry) : Type 0
  where
    pub r : Parts ℤ
    pub entry : Entry
    pub few : length f ≤ FRAME_MAX
    pub is_read : IsReadAs way r f
    pub is_entry : IsEntryOf r entry
    pub holds : H s (entry ∷ old)

-- a set that held nothing before took in the records of these frames; so much is known where it tells what it holds
abbrev pub GathersFrom : {S F : Type 0} → (S → List Entry → Type 0) → Gathering S F → Gathering S F → List (List ℕ)
    → Type 0
GathersFrom H first now frames =
    (now.reading ≡ first.reading) × (H first.set [] → Gathered H first.reading now.set frames)

-- records that were kept hold these entries, and no other
abbrev pub Holds : UnsortedRecords → List Entry → Type 0
Holds s es = HaveSame (entries_kept s) es

-- at the end of the frames the set is so, and nothing is done
abbrev pub only_at_end : (List (List ℕ) → Type 0) → AtEnd
only_at_end S frames d = S frames × (d ≡ nothing)

-- what a piece does to a stream: it goes on; or it has ended, whatever octets follow
abbrev pub GoesOrEnds : Flow → FrameReading → (List (List ℕ) → Type 0) → Scan → Framing → List ℕ → ℕ → Done → Type 0
GoesOrEnds Continue way S s kind given number d = HasHandled (archive_handling way) S s kind given number d
GoesOrEnds Finished way S s kind given number d = (more : List ℕ)
    → EndsInput (archive_handling way) noted_line (only_at_end S) (Stream kind) (given ++ more) d

-- memory ran out, or the spill failed
abbrev pub IsShort : SpillStop → Type 0
IsShort (Run Memory) = Unit {0}
IsShort (Run Read) = ⊥
IsShort (Run Endless) = ⊥
IsShort (Run Write) = ⊥
IsShort (Run Diagnostics) = ⊥
IsShort Spill = Unit {0}

-- lines on octets that were read
pub record LinesRead (P : List ℕ → Done → Type 0) (i j : InputState) (n m : OutputState) : Type 0 where
  pub given : List ℕ
  pub lines : Done
  pub consumed : Consumes i.left j.left given
  pub means : P given lines
  pub wrote : WroteAll n m lines.diagnostics

-- the lines on some octets that a stop leaves written; or the diagnostics failed
abbrev pub StopsLines : SpillStop → FrameReading → Framing → List ℕ → OutputState → OutputState → Type 0
StopsLines (Run Memory) way kind given n m =
    (d : Done) × HasPart (archive_handling way) kind given d × WroteAll n m d.diagnostics
StopsLines (Run Read) way kind given n m = ⊥
StopsLines (Run Endless) way kind given n m = ⊥
StopsLines (Run Write) way kind given n m = ⊥
StopsLines (Run Diagnostics) way kind given n m = OutputFailed n m
StopsLines Spill way kind given n m =
    (d : Done) × HasPart (archive_handling way) kind given d × WroteAll n m d.diagnostics

-- the lines so far were written, and what is held back has none
pub record Noted (P : Done → Type 0) (n m : OutputState) (held : Done) : Type 0 where
  pub notes : List ℕ
  pub means : P (then_done (written [] notes) held)
  pub wrote : WroteAll n m notes
  pub clear : held.diagnostics ≡ []

-- the whole input was gathered, and the lines on it were written
pub record GatheredAll (way : FrameReading) (S : List (List ℕ) → Type 0) (kind : Framing) (i j : InputState)
    (n m : OutputState) (refused : Bool) : Type 0
  where
    pub input : List ℕ
    pub lines : Done
    pub is_input : IsLeft i.left input
    pub ends : EndsInput (archive_handling way) noted_line (only_at_end S) (Stream kind) input lines
    pub wrote : WroteAll n m lines.diagnostics
    pub no_failure : j.failures ≡ i.failures
    pub refused_is : refused ≡ lines.refused

-- why it was not
abbrev pub GatherStops : SpillStop → FrameReading → Framing → InputState → InputState → OutputState → OutputState
    → Type 0
GatherStops (Run Read) way kind i j n m = InputFailed i j × LinesRead (GoesOn (archive_handling way) kind) i j n m
GatherStops (Run Endless) way kind i j n m = IsEndless i j × LinesRead (GoesOn (archive_handling way) kind) i j n m
GatherStops (Run Write) way kind i j n m = ⊥
GatherStops (Run Diagnostics) way kind i j n m = OutputFailed n m
GatherStops (Run Memory) way kind i j n m =
    (j.failures ≡ i.failures) × LinesRead (HasPart (archive_handling way) kind) i j n m
GatherStops Spill way kind i j n m =
    (j.failures ≡ i.failures) × LinesRead (HasPart (archive_handling way) kind) i j n m

-- an input was gathered, or it was told why not
pub record GathersInput (way : FrameReading) (S : List (List ℕ) → Type 0) (kind : Framing) (i j : InputState)
    (n m : OutputState) (r : Result Bool SpillStop) : Type 0
  where
    pub outcome : MatchResult r (λ refused. GatheredAll way S kind i j n m refused)
        (λ stop. GatherStops stop way kind i j n m)
    pub few : ReadsFew i j
