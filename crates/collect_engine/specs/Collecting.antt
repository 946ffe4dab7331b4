-- What is collected from a source, and what is written of it.
use Rattle.std.specs.Prelude.{◌≡◌, ◌⊎◌, ◌↔◌, ℕ, ◌<◌, List, [], ◌++◌, length, take, Bool, Option, Result, Ok, Err, codes}
use Rattle.std.specs.Prelude.{if◌then◌else◌}
use Rattle.std.specs.Io.KnownBytes.{Appends}
use Rattle.archive_text.specs.Entries.{Entry, Has}
use Rattle.archive_text.specs.Text.{IsArchive}
use Rattle.archive_text.specs.declared.limits.TheConstants.{ENTRY_MAX}
use Rattle.syslog_legacy.specs.declared.frame_reading.FrameReading.{FrameReading}
use Rattle.syslog_collect.specs.Frames.{IsReceived}
use Rattle.syslog_collect.specs.History.{AcceptedEvent, initial}
use Rattle.collect_engine.specs.Lines.{Rises}
use Rattle.collect_engine.specs.Serving.{StepsServed}
use Rattle.collect_engine.specs.Steps.{Given}
use Rattle.collect_engine.specs.declared.serve_end.Stopped.{Stopped}
use Rattle.collect_engine.specs.declared.serve_end.Stopped.TheVariants as stopped

-- the entries are an archive, and just those of the records that were received
pub record IsArchiveOf (way : FrameReading) (events : List AcceptedEvent) (kept : List Entry) : Type 0 where
  pub archive : IsArchive ENTRY_MAX kept
  pub members : (x : Entry) → Has kept x ↔ IsReceived way events x

-- how serving ended: whether a line was noted, or why it stopped
abbrev pub Served : Type 0
Served = Result Bool Stopped

-- serving ended so after these steps, from no event on, and these lines were noted
abbrev pub Collects : FrameReading → Served → List Given → List AcceptedEvent → List ℕ → Type 0
Collects way end gs es lines = (v : ℕ → ℕ) × StepsServed way initial (λ d. 0) v end gs es lines

-- ---- what is written behind it, by the failures of a device and the octets that it took, before and after

-- the device took the whole text
abbrev pub TakesWhole : ℕ → ℕ → Option (List ℕ) → Option (List ℕ) → List ℕ → Type 0
TakesWhole was now old new text = (now ≡ was) × Appends old new text

-- the device failed, and took only the first octets of the text
abbrev pub TakesPart : ℕ → ℕ → Option (List ℕ) → Option (List ℕ) → List ℕ → Type 0
TakesPart was now old new text =
    Rises was now × (n : ℕ) × (n < length text) × Appends old new (take n text)

-- the device took the text whole, or failed behind its first octets
abbrev pub Takes : ℕ → ℕ → Option (List ℕ) → Option (List ℕ) → List ℕ → Type 0
Takes was now old new text = TakesWhole was now old new text ⊎ TakesPart was now old new text

-- an archive's text is written whole: then this is the status and these are the lines; or the writer failed behind its
-- first octets: then the status is 2 and these other lines are due
abbrev pub WritesText : List ℕ → ℕ → List ℕ → List ℕ → ℕ → ℕ → ℕ → Option (List ℕ) → Option (List ℕ) → List ℕ → Type 0
WritesText text fine whole_lines part_lines status was now old new lines =
    ((status ≡ fine) × TakesWhole was now old new text × (lines ≡ whole_lines))
    ⊎ ((status ≡ 2) × TakesPart was now old new text × (lines ≡ part_lines))

-- nothing is written, and the status is 3
abbrev pub WritesNothing : ℕ → ℕ → ℕ → Option (List ℕ) → Option (List ℕ) → Type 0
WritesNothing status was now old new = (status ≡ 3) × (now ≡ was) × (new ≡ old)

-- what is written of this text, by how serving ended, with which status, and which lines are then due behind those of
-- the serving
abbrev pub WritesOut : Served → List ℕ → ℕ → ℕ → ℕ → Option (List ℕ) → Option (List ℕ) → List ℕ → Type 0
WritesOut (Ok refused) text status was now old new lines =
    WritesText text (if refused then 1 else 0) [] (codes "write fault\n") status was now old new lines
WritesOut (Err stopped.Step) text status was now old new lines =
    WritesText text 2 (codes "socket fault\n") (codes "socket fault\nwrite fault\n") status was now old new lines
WritesOut (Err stopped.Endless) text status was now old new lines =
    WritesText text 2 (codes "endless input\n") (codes "endless input\nwrite fault\n") status was now old new lines
WritesOut (Err stopped.Notes) text status was now old new lines = WritesText text 2 [] [] status was now old new lines
WritesOut (Err stopped.Memory) text status was now old new lines =
    WritesNothing status was now old new × (lines ≡ codes "want of memory\n")
WritesOut (Err stopped.MemoryAndNotes) text status was now old new lines =
    WritesNothing status was now old new × (lines ≡ [])

-- lines are noted behind those of the serving: all; or only their first octets, and not all, since the notes failed
abbrev pub NotesBehind : ℕ → ℕ → Option (List ℕ) → Option (List ℕ) → List ℕ → List ℕ → Type 0
NotesBehind was now old new told lines = TakesWhole was now old new (told ++ lines)
    ⊎ (Rises was now × (n : ℕ) × (n < length lines) × Appends old new (told ++ take n lines))

-- the same by how serving ended: nothing more is noted where the notes failed before
abbrev pub NotesOut : Served → ℕ → ℕ → Option (List ℕ) → Option (List ℕ) → List ℕ → List ℕ → Type 0
NotesOut (Ok refused) was now old new told lines = NotesBehind was now old new told lines
NotesOut (Err stopped.Step) was now old new told lines = NotesBehind was now old new told lines
NotesOut (Err stopped.Endless) was now old new told lines = NotesBehind was now old new told lines
NotesOut (Err stopped.Memory) was now old new told lines = NotesBehind was now old new told lines
NotesOut (Err stopped.Notes) was now old new told lines = Rises was now × Appends old new told
NotesOut (Err stopped.MemoryAndNotes) was now old new told lines = Rises was now × Appends old new told

-- what comes of the notes after the serving that ended so
abbrev pub NotesThen : Served → ℕ → ℕ → Option (List ℕ) → Option (List ℕ) → List ℕ → Type 0
NotesThen (Ok refused) was now old new lines = NotesBehind was now old new [] lines
NotesThen (Err stopped.Step) was now old new lines = NotesBehind was now old new [] lines
NotesThen (Err stopped.Endless) was now old new lines = NotesBehind was now old new [] lines
NotesThen (Err stopped.Memory) was now old new lines = NotesBehind was now old new [] lines
NotesThen (Err stopped.Notes) was now old new lines = TakesWhole was now old new []
NotesThen (Err stopped.MemoryAndNotes) was now old new lines = TakesWhole was now old new []

-- where there is an archive to write
abbrev pub IfArchived : Served → Type 0 → Type 0
IfArchived (Ok refused) P = P
IfArchived (Err stopped.Step) P = P
IfArchived (Err stopped.Endless) P = P
IfArchived (Err stopped.Notes) P = P
IfArchived (Err stopped.Memory) P = Unit {0}
IfArchived (Err stopped.MemoryAndNotes) P = Unit {0}
