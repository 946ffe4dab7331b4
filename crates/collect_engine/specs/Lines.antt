-- The lines on what is refused.
use Rattle.std.specs.Prelude.{◌≡◌, ℕ, ◌<◌, ◌^◌, List, [], ◌∷◌, ◌++◌, length, take, Bool, true, false, Result, Ok, Err}
use Rattle.octet_devices.specs.Device.{count_on}
use Rattle.syslog_collect.specs.declared.outcome.Outcome.{Outcome}
use Rattle.syslog_collect.specs.declared.outcome.Outcome.TheVariants.{New, Held, Refused, RefusedLegacy, TooLong}
use Rattle.syslog_collect.specs.declared.outcome.Outcome.TheVariants.{BadCount}
use Rattle.frame_engine.specs.Line.{line_text}
use Rattle.frame_engine.specs.declared.line.Line.TheVariants as line
use Rattle.collect_engine.specs.declared.receiving.Received.{Received}
use Rattle.collect_engine.specs.declared.serve_end.Stopped.{Stopped}
use Rattle.collect_engine.specs.declared.serve_end.Stopped.TheVariants as stopped
use Rattle.collect_engine.specs.declared.receiving.Received.TheVariants as received

-- the line on an outcome with this number: none, where it is a record
abbrev pub outcome_line : ℕ → Outcome → List ℕ
outcome_line n New = []
outcome_line n Held = []
outcome_line n (Refused fault) = line_text (line.Refused n fault)
outcome_line n (RefusedLegacy offset) = line_text (line.LegacyNotUtf8 n offset)
outcome_line n TooLong = line_text (line.TooLong n)
outcome_line n (BadCount at) = line_text (line.BadCount n at)

-- the lines on outcomes, the first of them with this number
abbrev pub outcome_lines : ℕ → List Outcome → List ℕ
outcome_lines n [] = []
outcome_lines n (o ∷ os) = outcome_line n o ++ outcome_lines (count_on n) os

-- the number that comes after outcomes, the first of them with this number
abbrev pub counted : ℕ → List Outcome → ℕ
counted n [] = n
counted n (o ∷ os) = counted (count_on n) os

-- the line on an end inside a frame
abbrev pub end_line : Received → List ℕ
end_line received.Accepted = []
end_line (received.Unterminated start) = line_text (line.Unterminated start)
end_line received.Refused = []
end_line received.Memory = []

-- the lines on an event
abbrev pub lines_on : ℕ → List Outcome → Received → List ℕ
lines_on n os r = outcome_lines n os ++ end_line r

-- there is some octet
abbrev pub has_some : List ℕ → Bool
has_some [] = false
has_some (x ∷ xs) = true

-- these of the octets were noted: all; or only the first, where the notes could not be written; or none, where memory
-- ran out
abbrev pub NotesAs : {U : Type 0} → Result U Stopped → List ℕ → List ℕ → Type 0
NotesAs (Ok u) octets told = told ≡ octets
NotesAs (Err stopped.Notes) octets told = (k : ℕ) × (k < length octets) × (told ≡ take k octets)
NotesAs (Err stopped.Memory) octets told = told ≡ []
NotesAs (Err stopped.Step) octets told = ⊥
NotesAs (Err stopped.Endless) octets told = ⊥
NotesAs (Err stopped.MemoryAndNotes) octets told = ⊥

-- a device has failed, where its failures are few enough to be counted
abbrev pub Rises : ℕ → ℕ → Type 0
Rises was now = was < 2 ^ 63 → was < now

-- the failures of the notes, before and after: more, where these stopped serving, else as many
abbrev pub NotesFail : {A : Type 0} → Result A Stopped → ℕ → ℕ → Type 0
NotesFail (Ok a) was now = now ≡ was
NotesFail (Err stopped.Step) was now = now ≡ was
NotesFail (Err stopped.Notes) was now = Rises was now
NotesFail (Err stopped.Endless) was now = now ≡ was
NotesFail (Err stopped.Memory) was now = now ≡ was
NotesFail (Err stopped.MemoryAndNotes) was now = Rises was now

-- why serving stops where memory ran out, by how the lines on what was met were noted
abbrev pub memory_after : {A : Type 0} → Result A Stopped → Stopped
memory_after (Ok a) = stopped.Memory
memory_after (Err stopped.Step) = stopped.Memory
memory_after (Err stopped.Notes) = stopped.MemoryAndNotes
memory_after (Err stopped.Endless) = stopped.Memory
memory_after (Err stopped.Memory) = stopped.Memory
memory_after (Err stopped.MemoryAndNotes) = stopped.MemoryAndNotes
