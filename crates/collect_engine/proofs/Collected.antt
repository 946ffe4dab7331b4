-- What was collected and written when serving ends.
use Rattle.std.proofs.Common.{◌≡◌, ℕ, ◌<◌, List, [], ◌++◌, ◌+◌, length, take, refl, sym, ◌∙◌}
use Rattle.std.proofs.Common.{◌≤◌, true, false, ap, subst, inl, inr, arith}
use Rattle.std.specs.Prelude.{◌^◌, Option, Result, Ok, Err, OnOk, OnErr, IfErr}
use Rattle.std.specs.Io.KnownBytes.{Appends}
use Rattle.std.proofs.KnownBytes.{Appends-trans}
use Rattle.std.proofs.Math.Seq.{take-append-add}
use Rattle.std.proofs.lemmas.List.{append-nil, length-append, take-append-le}
use Rattle.octet_devices.specs.Device.{OutputState}
use Rattle.octet_devices.specs.Transfers.{WritesAll}
use Rattle.octet_devices.specs.declared.loops.WriteFault.{WriteFault}
use Rattle.archive_text.specs.Entries.{Entry}
use Rattle.archive_text.specs.Text.{IsArchive}
use Rattle.archive_text.specs.declared.limits.TheConstants.{ENTRY_MAX}
use Rattle.syslog_legacy.specs.declared.frame_reading.FrameReading.{FrameReading}
use Rattle.syslog_collect.specs.Headline.{IsSettled}
use Rattle.syslog_collect.specs.History.{AcceptedEvent, initial}
use Rattle.syslog_collect.specs.Logs.{waiting}
use Rattle.syslog_collect.specs.Standing.{Stands}
use Rattle.syslog_collect.specs.declared.connections.Connections.{Connections}
use Rattle.syslog_collect.proofs.Headline.{holds_just}
use Rattle.collect_engine.specs.Collecting.{Collects, IfArchived, IsArchiveOf, NotesBehind, NotesOut, NotesThen, Served}
use Rattle.collect_engine.specs.Collecting.{Takes, WritesOut, WritesText}
use Rattle.collect_engine.specs.Lines.{NotesFail, Rises}
use Rattle.collect_engine.specs.Serving.{StepsServed, UnlessMemory}
use Rattle.collect_engine.specs.Steps.{Given}
use Rattle.collect_engine.specs.declared.serve_end.Stopped.{Stopped}
use Rattle.collect_engine.specs.declared.serve_end.Stopped.TheVariants as stopped

archive_of : (way k : FrameReading) (ds : Connections) (now first : List Entry) (es : List AcceptedEvent) → k ≡ way
    → first ≡ [] → IsArchive ENTRY_MAX now → Stands k ds now first es → IsSettled ds → IsArchiveOf way es now
archive_of way k ds now first es same empty archive stands settled = record {
  archive = archive;
  members = holds_just way ds now es (subst (λ (f : List Entry). Stands way ds now f es) empty
      (subst (λ (t : FrameReading). Stands t ds now first es) same stands)) settled;
}

if_archived : (end : Served) (P Q : Type 0) → (P → Q) → UnlessMemory end P → IfArchived end Q
if_archived (Ok refused) P Q f h = f h
if_archived (Err stopped.Step) P Q f h = f h
if_archived (Err stopped.Notes) P Q f h = f h
if_archived (Err stopped.Endless) P Q f h = f h
if_archived (Err stopped.Memory) P Q f h = tt
if_archived (Err stopped.MemoryAndNotes) P Q f h = tt

-- what a store keeps that began empty, unless memory ran out
pub archived : (end : Served) (way k : FrameReading) (ds : Connections) (now first : List Entry)
    (es : List AcceptedEvent)
    → k ≡ way → first ≡ [] → IsArchive ENTRY_MAX now → Stands k ds now first es → UnlessMemory end (IsSettled ds)
    → IfArchived end (IsArchiveOf way es now)
archived end way k ds now first es same empty archive stands settled =
    if_archived end (IsSettled ds) (IsArchiveOf way es now)
    (λ quiet. archive_of way k ds now first es same empty archive stands quiet) settled

pub from_nothing : (way k : FrameReading) (cs : Connections) (v : ℕ → ℕ) (end : Served) (gs : List Given)
    (es : List AcceptedEvent) (lines : List ℕ) → k ≡ way → IsSettled cs
    → StepsServed k initial (waiting cs) v end gs es lines → Collects way end gs es lines
from_nothing way k cs v end gs es lines same settled served =
    let quiet : waiting cs ≡ (λ (d : ℕ). 0) = λ i d. settled d i in (
      v,
      subst (λ (w : ℕ → ℕ). StepsServed way initial w v end gs es lines) quiet
          (subst (λ (t : FrameReading). StepsServed t initial (waiting cs) v end gs es lines) same served),
    )

-- memory ran out before the first step
pub nothing_served : (way : FrameReading) → Collects way (Err stopped.Memory) [] [] []
nothing_served way = (λ d. 0, inl (refl, refl, refl))

-- ---- the notes

later_rises : (a b c : ℕ) → b ≡ a → Rises b c → Rises a c
later_rises a b c same rises = subst (λ (n : ℕ). Rises n c) same rises

earlier_rises : (a b c : ℕ) → c ≡ b → Rises a b → Rises a c
earlier_rises a b c same rises = subst (λ (n : ℕ). Rises a n) (sym same) rises

-- lines behind those that were noted
behind : (a b c : ℕ) (t0 t1 t2 : Option (List ℕ)) (told lines : List ℕ) → b ≡ a → Appends t0 t1 told
    → NotesBehind b c t1 t2 [] lines → NotesBehind a c t0 t2 told lines
behind a b c t0 t1 t2 told lines same before (inl (quiet, more)) =
    inl (quiet ∙ same, Appends-trans t0 t1 t2 told lines before more)
behind a b c t0 t1 t2 told lines same before (inr (rises, n, less, more)) =
    inr (later_rises a b c same rises, n, less, Appends-trans t0 t1 t2 told (take n lines) before more)

nothing_more : (t0 t1 t2 : Option (List ℕ)) (told : List ℕ) → Appends t0 t1 told → Appends t1 t2 [] → Appends t0 t2 told
nothing_more t0 t1 t2 told before more =
    subst (Appends t0 t2) (append-nil told) (Appends-trans t0 t1 t2 told [] before more)

pub notes_out : (end : Served) (a b c : ℕ) (t0 t1 t2 : Option (List ℕ)) (told lines : List ℕ) → NotesFail end a b
    → Appends t0 t1 told → NotesThen end b c t1 t2 lines → NotesOut end a c t0 t2 told lines
notes_out (Ok refused) a b c t0 t1 t2 told lines same before more =
    behind a b c t0 t1 t2 told lines same before more
notes_out (Err stopped.Step) a b c t0 t1 t2 told lines same before more =
    behind a b c t0 t1 t2 told lines same before more
notes_out (Err stopped.Endless) a b c t0 t1 t2 told lines same before more =
    behind a b c t0 t1 t2 told lines same before more
notes_out (Err stopped.Memory) a b c t0 t1 t2 told lines same before more =
    behind a b c t0 t1 t2 told lines same before more
notes_out (Err stopped.Notes) a b c t0 t1 t2 told lines rises before (quiet, more) =
    (earlier_rises a b c quiet rises, nothing_more t0 t1 t2 told before more)
notes_out (Err stopped.MemoryAndNotes) a b c t0 t1 t2 told lines rises before (quiet, more) =
    (earlier_rises a b c quiet rises, nothing_more t0 t1 t2 told before more)

-- of lines of which only the first were noted, the notes having failed
pub first_lines : (a b : ℕ) (t0 t1 : Option (List ℕ)) (line rest : List ℕ) (n : ℕ) → Rises a b → n < length line
    → Appends t0 t1 (take n line) → NotesBehind a b t0 t1 [] (line ++ rest)
first_lines a b t0 t1 line rest n rises less taken =
    let some : n ≤ length line = omega (arith, less) in
    inr (
      rises,
      n,
      omega (arith, length-append line rest, less),
      subst (Appends t0 t1) (sym (take-append-le n line rest some)) taken,
    )

-- a line, and then others
pub then_lines : (a b c : ℕ) (t0 t1 t2 : Option (List ℕ)) (line lines : List ℕ) → b ≡ a → Appends t0 t1 line
    → NotesBehind b c t1 t2 [] lines → NotesBehind a c t0 t2 [] (line ++ lines)
then_lines a b c t0 t1 t2 line lines same before (inl (quiet, more)) =
    inl (quiet ∙ same, Appends-trans t0 t1 t2 line lines before more)
then_lines a b c t0 t1 t2 line lines same before (inr (rises, n, less, more)) =
    inr (
      later_rises a b c same rises,
      length line + n,
      omega (arith, length-append line lines, less),
      subst (Appends t0 t2) (sym (take-append-add line lines n))
          (Appends-trans t0 t1 t2 line (take n lines) before more),
    )

-- ---- the writer

-- the lines behind a line
pub writes_behind : (text line rest : List ℕ) (status a b : ℕ) (t0 t1 : Option (List ℕ)) (lines : List ℕ)
    → WritesText text 2 [] rest status a b t0 t1 lines
    → WritesText text 2 line (line ++ rest) status a b t0 t1 (line ++ lines)
writes_behind text line rest status a b t0 t1 lines (inl (is, taken, none)) =
    inl (is, taken, ap (λ (z : List ℕ). line ++ z) none ∙ append-nil line)
writes_behind text line rest status a b t0 t1 lines (inr (is, taken, lines_are)) =
    inr (is, taken, ap (λ (z : List ℕ). line ++ z) lines_are)

-- ---- one call

-- a text was written to a device
pub took : (result : Result (Unit {0}) WriteFault) (o n : OutputState) (text : List ℕ) → WritesAll o n text result
    → Takes o.failures n.failures o.taken n.taken text
took (Ok u) o n text w = inl (w.no_failure, w.octets)
took (Err f) o n text w = inr (w.cause, f.sent, w.some_left, w.octets)

pub noted : (a b : ℕ) (t0 t1 : Option (List ℕ)) (lines : List ℕ) → Takes a b t0 t1 lines
    → NotesBehind a b t0 t1 [] lines
noted a b t0 t1 lines (inl whole) = inl whole
noted a b t0 t1 lines (inr (rises, n, less, taken)) = inr (rises, n, less, taken)

-- no line is due
pub written_unnoted : (text : List ℕ) (status a b : ℕ) (t0 t1 : Option (List ℕ)) → Takes a b t0 t1 text → status ≡ 2
    → WritesText text 2 [] [] status a b t0 t1 []
written_unnoted text status a b t0 t1 (inl taken) is = inl (is, taken, refl)
written_unnoted text status a b t0 t1 (inr taken) is = inr (is, taken, refl)

-- only the first octets of a line were noted, and then the archive was written
pub written_behind_part : (text line rest : List ℕ) (status a b : ℕ) (t0 t1 : Option (List ℕ)) (c d n : ℕ)
    (m0 m1 : Option (List ℕ)) → Takes a b t0 t1 text → status ≡ 2 → Rises c d → n < length line
    → Appends m0 m1 (take n line)
    → (lines : List ℕ) × WritesText text 2 line (line ++ rest) status a b t0 t1 lines × NotesBehind c d m0 m1 [] lines
written_behind_part text line rest status a b t0 t1 c d n m0 m1 (inl taken) is rises less front =
    (line, inl (is, taken, refl), inr (rises, n, less, front))
written_behind_part text line rest status a b t0 t1 c d n m0 m1 (inr taken) is rises less front =
    (line ++ rest, inr (is, taken, refl), first_lines c d m0 m1 line rest n rises less front)

-- by why serving stopped
pub stop_out : (why was : Stopped) (text : List ℕ) (status a b : ℕ) (t0 t1 : Option (List ℕ)) (c d : ℕ)
    (m0 m1 : Option (List ℕ)) → was ≡ why
    → ((lines : List ℕ) × WritesOut (Err why) text status a b t0 t1 lines × NotesThen (Err why) c d m0 m1 lines)
    → (lines : List ℕ) × WritesOut (Err was) text status a b t0 t1 lines × NotesThen (Err was) c d m0 m1 lines
stop_out why was text status a b t0 t1 c d m0 m1 is (lines, out, then) = (
  lines,
  subst (λ (k : Stopped). WritesOut (Err k) text status a b t0 t1 lines) (sym is) out,
  subst (λ (k : Stopped). NotesThen (Err k) c d m0 m1 lines) (sym is) then,
)

-- ---- the status

pub known_out : (end : Served) (text : List ℕ) (status a b : ℕ) (t0 t1 : Option (List ℕ)) (lines : List ℕ)
    → WritesOut end text status a b t0 t1 lines → status ≤ 3
known_out (Ok true) text status a b t0 t1 lines (inl out) = omega (arith, out.0)
known_out (Ok true) text status a b t0 t1 lines (inr out) = omega (arith, out.0)
known_out (Ok false) text status a b t0 t1 lines (inl out) = omega (arith, out.0)
known_out (Ok false) text status a b t0 t1 lines (inr out) = omega (arith, out.0)
known_out (Err stopped.Step) text status a b t0 t1 lines (inl out) = omega (arith, out.0)
known_out (Err stopped.Step) text status a b t0 t1 lines (inr out) = omega (arith, out.0)
known_out (Err stopped.Endless) text status a b t0 t1 lines (inl out) = omega (arith, out.0)
known_out (Err stopped.Endless) text status a b t0 t1 lines (inr out) = omega (arith, out.0)
known_out (Err stopped.Notes) text status a b t0 t1 lines (inl out) = omega (arith, out.0)
known_out (Err stopped.Notes) text status a b t0 t1 lines (inr out) = omega (arith, out.0)
known_out (Err stopped.Memory) text status a b t0 t1 lines out = omega (arith, out.0.0)
known_out (Err stopped.MemoryAndNotes) text status a b t0 t1 lines out = omega (arith, out.0.0)

pub nothing_out : (end : Served) (text : List ℕ) (status a b : ℕ) (t0 t1 : Option (List ℕ)) (lines : List ℕ)
    → WritesOut end text status a b t0 t1 lines → status ≡ 3 → t1 ≡ t0
nothing_out (Ok true) text status a b t0 t1 lines (inl out) is = absurd (omega (arith, out.0, is))
nothing_out (Ok true) text status a b t0 t1 lines (inr out) is = absurd (omega (arith, out.0, is))
nothing_out (Ok false) text status a b t0 t1 lines (inl out) is = absurd (omega (arith, out.0, is))
nothing_out (Ok false) text status a b t0 t1 lines (inr out) is = absurd (omega (arith, out.0, is))
nothing_out (Err stopped.Step) text status a b t0 t1 lines (inl out) is = absurd (omega (arith, out.0, is))
nothing_out (Err stopped.Step) text status a b t0 t1 lines (inr out) is = absurd (omega (arith, out.0, is))
nothing_out (Err stopped.Endless) text status a b t0 t1 lines (inl out) is = absurd (omega (arith, out.0, is))
nothing_out (Err stopped.Endless) text status a b t0 t1 lines (inr out) is = absurd (omega (arith, out.0, is))
nothing_out (Err stopped.Notes) text status a b t0 t1 lines (inl out) is = absurd (omega (arith, out.0, is))
nothing_out (Err stopped.Notes) text status a b t0 t1 lines (inr out) is = absurd (omega (arith, out.0, is))
nothing_out (Err stopped.Memory) text status a b t0 t1 lines out is = out.0.2
nothing_out (Err stopped.MemoryAndNotes) text status a b t0 t1 lines out is = out.0.2
