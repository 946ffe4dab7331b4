-- The lines on a stream whose records are added to a set.
use Rattle.std.proofs.Common.{◌≡◌, ℕ, ◌+◌, ◌<◌, ◌≤◌, List, [], ◌++◌, length, take, drop, refl, sym, ap, subst, ◌∙◌}
use Rattle.std.proofs.Math.Seq.{take-append_seam}
use Rattle.driver.specs.declared.session.Flow.TheVariants.{Continue, Finished}
use Rattle.std.proofs.Common.{append-nil, arith, inl, inr, Bool, Ok, Err}
use Rattle.std.specs.Io.KnownBytes.{Consumes}
use Rattle.std.proofs.KnownBytes.{Consumes-kept, Consumes-nil, Consumes-trans}
use Rattle.std.proofs.lemmas.Bool.{cases_lt}
use Rattle.octet_devices.specs.Device.{AreSmall, Gave, InputState, OutputState, ReadFailed}
use Rattle.octet_devices.specs.Transfers.{ReadsFew, WroteAll}
use Rattle.octet_devices.specs.declared.loops.TheConstants.{READER_CALLS}
use Rattle.syslog_frame.specs.Frames.{Frames}
use Rattle.syslog_frame.specs.Scan.{Scan, IsReading}
use Rattle.syslog_frame.specs.declared.framing.Framing.{Framing}
use Rattle.syslog_legacy.specs.declared.frame_reading.FrameReading.{FrameReading}
use Rattle.driver.specs.Devices.{OutputFailed}
use Rattle.driver.specs.Effects.{Done, nothing, then_done, written}
use Rattle.driver.specs.declared.stopped.Stopped.TheVariants.{Diagnostics, Endless, Memory, Read, Write}
use Rattle.driver.proofs.Known.{is_left_at_end, is_left_more, wrote_nothing, wrote_then}
use Rattle.frame_engine.specs.Converted.{noted_line}
use Rattle.frame_engine.specs.Handling.{HandledFrom}
use Rattle.frame_engine.specs.Sessions.{EndsInput, GoesOn}
use Rattle.frame_engine.specs.Streams.{HasBad, HasHandled, HasPart, ReportsEnd}
use Rattle.frame_engine.specs.declared.input_framing.InputFraming.TheVariants.{Stream}
use Rattle.frame_engine.specs.declared.line.Line.TheVariants.{BadCount}
use Rattle.frame_engine.proofs.HandlingLemmas.{same_done, then_nothing}
use Rattle.frame_engine.proofs.SessionLemmas.{ended, ended_at_bad, goes_on, nothing_part}
use Rattle.archive_engine.specs.Archived.{archive_handling}
use Rattle.archive_engine.specs.Gathering.{GatherStops, GathersInput, GoesOrEnds, IsShort, LinesRead}
use Rattle.archive_engine.specs.Gathering.{Noted, StopsLines, only_at_end}
use Rattle.archive_engine.specs.declared.spill_stop.SpillStop.{SpillStop}
use Rattle.archive_engine.specs.declared.spill_stop.SpillStop.TheVariants.{Run, Spill}

-- ---- the end of a stream

-- a line was noted, and nothing else
line_then : (old new reported : Done) → new ≡ then_done old reported
    → new ≡ then_done old (then_done reported nothing)
line_then old new reported is = is ∙ ap (then_done old) (sym (then_nothing reported))

-- a bad MSG-LEN came
pub bad_ends : (way : FrameReading) (S : List (List ℕ) → Type 0) (kind : Framing) (stream : List ℕ) (number at : ℕ)
    (before old new : Done) → (x : HasBad (archive_handling way) S kind stream number (then_done before old) at)
    → new ≡ then_done old (noted_line (BadCount number at))
    → EndsInput (archive_handling way) noted_line (only_at_end S) (Stream kind) stream (then_done before new)
bad_ends way S kind stream number at before old new x is =
    ended_at_bad (archive_handling way) S noted_line (only_at_end S) kind stream number at before old new x (
      then_done (noted_line (BadCount number at)) nothing,
      (nothing, (x.stands, refl), refl),
      line_then old new (noted_line (BadCount number at)) is,
    )

-- the input ended
pub end_ends : (way : FrameReading) (S : List (List ℕ) → Type 0) (kind : Framing) (given : List ℕ)
    (frames : List (List ℕ)) (rest : List ℕ) (before old new reported : Done) → Frames kind given frames rest
    → HandledFrom (archive_handling way) 1 frames (then_done before old)
    → ReportsEnd noted_line kind given frames rest reported → S frames → new ≡ then_done old reported
    → EndsInput (archive_handling way) noted_line (only_at_end S) (Stream kind) given (then_done before new)
end_ends way S kind given frames rest before old new reported are handled reports stands is =
    ended (archive_handling way) noted_line (only_at_end S) kind given frames rest before old new reported are handled
    reports (
      then_done reported nothing,
      (nothing, (stands, refl), refl),
      line_then old new reported is,
    )

-- ---- lines that are written

-- what is left of what was held back once its lines were written
abbrev pub without_lines : Done → Done
without_lines d = record { refused = d.refused; output = d.output; diagnostics = [] }

noted_total : (notes : List ℕ) (held : Done)
    → then_done (written [] notes) held ≡ then_done (written [] (notes ++ held.diagnostics)) (without_lines held)
noted_total notes held =
    same_done held.refused held.refused held.output held.output (notes ++ held.diagnostics)
    ((notes ++ held.diagnostics) ++ []) refl refl (sym (append-nil (notes ++ held.diagnostics)))

-- some octets more were taken, and the lines on them written
pub noted_more : (P Q : Done → Type 0) (n m k : OutputState) (old mid new : Done) → (h : Noted P n m old)
    → (P (then_done (written [] h.notes) old) → Q (then_done (written [] h.notes) mid))
    → WroteAll m k mid.diagnostics
    → new ≡ without_lines mid → Noted Q n k new
noted_more P Q n m k old mid new h more wrote is = record {
  notes = h.notes ++ mid.diagnostics;
  means = subst (λ (d : Done). Q (then_done (written [] (h.notes ++ mid.diagnostics)) d)) (sym is)
      (subst Q (noted_total h.notes mid) (more h.means));
  wrote = wrote_then n m k h.notes mid.diagnostics h.wrote wrote;
  clear = ap (λ (d : Done). d.diagnostics) is;
}

-- memory ran out or the spill failed, and the lines so far were written
pub noted_short : (stop : SpillStop) (way : FrameReading) (kind : Framing) (given : List ℕ) (P : Done → Type 0)
    (n m k : OutputState) (old mid : Done) → IsShort stop → (h : Noted P n m old)
    → HasPart (archive_handling way) kind given (then_done (written [] h.notes) mid) → WroteAll m k mid.diagnostics
    → StopsLines stop way kind given n k
noted_short (Run Memory) way kind given P n m k old mid short h part wrote =
    (then_done (written [] h.notes) mid, part, wrote_then n m k h.notes mid.diagnostics h.wrote wrote)
noted_short (Run Read) way kind given P n m k old mid short h part wrote = absurd short
noted_short (Run Endless) way kind given P n m k old mid short h part wrote = absurd short
noted_short (Run Write) way kind given P n m k old mid short h part wrote = absurd short
noted_short (Run Diagnostics) way kind given P n m k old mid short h part wrote = absurd short
noted_short Spill way kind given P n m k old mid short h part wrote =
    (then_done (written [] h.notes) mid, part, wrote_then n m k h.notes mid.diagnostics h.wrote wrote)

-- the diagnostics failed
pub noted_failed : (P : Done → Type 0) (n m k : OutputState) (old : Done) → Noted P n m old → OutputFailed m k
    → OutputFailed n k
noted_failed P n m k old h failed = λ small. omega (
  arith,
  h.wrote.no_failure,
  failed (omega (arith, h.wrote.no_failure, small)),
)

pub failed_stops : (stop : SpillStop) (way : FrameReading) (kind : Framing) (given : List ℕ) (n k : OutputState)
    → stop ≡ Run Diagnostics → OutputFailed n k → StopsLines stop way kind given n k
failed_stops stop way kind given n k is failed =
    subst (λ (s : SpillStop). StopsLines s way kind given n k) (sym is) failed

-- the lines on octets that were read
lines_read : (P : List ℕ → Done → Type 0) (i j : InputState) (n m : OutputState) (given : List ℕ) (held : Done)
    → Noted (P given) n m held → Consumes i.left j.left given → LinesRead P i j n m
lines_read P i j n m given held h consumed = record {
  given = given;
  lines = then_done (written [] h.notes) held;
  consumed = consumed;
  means = h.means;
  wrote = subst (WroteAll n m) (sym (ap (λ (l : List ℕ). h.notes ++ l) h.clear ∙ append-nil h.notes)) h.wrote;
}

noted_weaker : (P Q : Done → Type 0) (n m : OutputState) (held : Done) → ((d : Done) → P d → Q d) → Noted P n m held
    → Noted Q n m held
noted_weaker P Q n m held f h =
    record { notes = h.notes; means = f (then_done (written [] h.notes) held) h.means; wrote = h.wrote; clear = h.clear }

-- ---- how often the input was called

few_failed : (i mid j : InputState) (turn : ℕ) → turn < READER_CALLS → (AreSmall i → mid.calls ≡ i.calls + turn)
    → mid.ends ≡ i.ends → ReadFailed mid j → ReadsFew i j
few_failed i mid j turn in_time calls ends failed = record {
  calls = λ small. omega (arith, calls small, failed.counted, in_time);
  ends = omega (arith, ends, failed.no_end);
  ended = λ h. absurd (omega (arith, h, ends, failed.no_end));
}

few_last : (i j : InputState) (turn : ℕ) → turn ≤ READER_CALLS → (AreSmall i → j.calls ≡ i.calls + turn)
    → j.ends ≡ i.ends → ReadsFew i j
few_last i j turn in_time calls ends = record {
  calls = λ small. omega (arith, calls small, in_time);
  ends = omega (arith, ends);
  ended = λ h. absurd (omega (arith, h, ends));
}

few_ends : (mid j : InputState) (n : ℕ) (buf : List ℕ) → 0 < length buf → Gave mid j buf n → j.ends ≤ mid.ends + 1
few_ends mid j n buf room gave =
    elim (cases_lt 0 n) [
      | inl some ↦ omega (arith, gave.no_end some)
      | inr none ↦ omega (arith, gave.ended (omega (arith, none)) room)
    ]

few_gave : (i mid j : InputState) (turn n : ℕ) (buf : List ℕ) → turn < READER_CALLS
    → (AreSmall i → mid.calls ≡ i.calls + turn) → mid.failures ≡ i.failures → mid.ends ≡ i.ends → 0 < length buf
    → Gave mid j buf n → ReadsFew i j
few_gave i mid j turn n buf in_time calls sound ends room gave = record {
  calls = λ small. omega (arith, calls small, gave.counted, in_time);
  ends = omega (arith, few_ends mid j n buf room gave, ends);
  ended = λ _. gave.no_failure ∙ sound;
}

-- ---- the loop

-- octets were read and taken, and the lines on them written
pub record Reading (way : FrameReading) (S : List (List ℕ) → Type 0) (s : Scan) (kind : Framing) (number : ℕ)
    (i j : InputState) (n m : OutputState) (held : Done) : Type 0
  where
    pub given : List ℕ
    pub consumed : Consumes i.left j.left given
    pub noted : Noted (HasHandled (archive_handling way) S s kind given number) n m held

pub not_yet : (way : FrameReading) (S : List (List ℕ) → Type 0) (s : Scan) (kind : Framing) (number : ℕ)
    (i : InputState) (n : OutputState) (held : Done) → HasHandled (archive_handling way) S s kind [] number nothing
    → held ≡ nothing → Reading way S s kind number i i n n held
not_yet way S s kind number i n held h none = record {
  given = [];
  consumed = Consumes-nil i.left;
  noted = record {
    notes = [];
    means = subst (λ (d : Done). HasHandled (archive_handling way) S s kind [] number (then_done (written [] []) d))
        (sym none) h;
    wrote = wrote_nothing n;
    clear = ap (λ (d : Done). d.diagnostics) none;
  };
}

so_far : (way : FrameReading) (S : List (List ℕ) → Type 0) (s : Scan) (kind : Framing) (number : ℕ)
    (i j k : InputState) (n m : OutputState) (held : Done) → IsReading s
    → (r : Reading way S s kind number i j n m held) → Consumes i.left k.left r.given
    → LinesRead (GoesOn (archive_handling way) kind) i k n m
so_far way S s kind number i j k n m held is r consumed =
    lines_read (GoesOn (archive_handling way) kind) i k n m r.given held
    (noted_weaker (HasHandled (archive_handling way) S s kind r.given number)
    (GoesOn (archive_handling way) kind r.given) n m held
    (λ d h. goes_on (archive_handling way) S kind s r.given number d is h) r.noted)
    consumed

-- memory ran out before anything was read
pub never_read : (way : FrameReading) (S : List (List ℕ) → Type 0) (kind : Framing) (i : InputState) (n : OutputState)
    → GathersInput way S kind i i n n (Err (Run Memory))
never_read way S kind i n = record {
  outcome = (
    refl,
    record {
      given = [];
      lines = nothing;
      consumed = Consumes-nil i.left;
      means = nothing_part (archive_handling way) kind;
      wrote = wrote_nothing n;
    },
  );
  few = few_last i i 0 (omega arith) (λ _. omega arith) refl;
}

-- the input failed
pub read_fails : (way : FrameReading) (S T : List (List ℕ) → Type 0) (s : Scan) (kind : Framing) (number turn : ℕ)
    (i mid j : InputState) (n m : OutputState) (held : Done) → IsReading s
    → Reading way S s kind number i mid n m held → turn < READER_CALLS → (AreSmall i → mid.calls ≡ i.calls + turn)
    → mid.failures ≡ i.failures → mid.ends ≡ i.ends → ReadFailed mid j
    → GathersInput way T kind i j n m (Err (Run Read))
read_fails way S T s kind number turn i mid j n m held is r in_time calls sound ends failed = record {
  outcome = (
    λ small. omega (arith, failed.failed, sound, small.1),
    so_far way S s kind number i mid j n m held is r (Consumes-kept _ _ _ _ r.consumed failed.octets),
  );
  few = few_failed i mid j turn in_time calls ends failed;
}

-- the input gave no end in the most calls
pub never_ends : (way : FrameReading) (S T : List (List ℕ) → Type 0) (s : Scan) (kind : Framing) (number turn : ℕ)
    (i mid : InputState) (n m : OutputState) (held : Done) → IsReading s
    → Reading way S s kind number i mid n m held → turn ≡ READER_CALLS → (AreSmall i → mid.calls ≡ i.calls + turn)
    → mid.failures ≡ i.failures → mid.ends ≡ i.ends → GathersInput way T kind i mid n m (Err (Run Endless))
never_ends way S T s kind number turn i mid n m held is r last calls sound ends = record {
  outcome = (
    record { calls = λ small. omega (arith, calls small, last); no_failure = sound; no_end = ends },
    so_far way S s kind number i mid mid n m held is r r.consumed,
  );
  few = few_last i mid turn (omega (arith, last)) calls ends;
}

-- the octets of a piece
pub piece_consumed : (i mid j : InputState) (buf given : List ℕ) (n : ℕ) → Consumes i.left mid.left given
    → Gave mid j buf n → Consumes i.left j.left (given ++ take n buf)
piece_consumed i mid j buf given n consumed gave = Consumes-trans i.left mid.left j.left _ _ consumed gave.octets

-- the input ended
pub read_ends : (way : FrameReading) (S : List (List ℕ) → Type 0) (kind : Framing) (turn n : ℕ) (buf given : List ℕ)
    (i mid j : InputState) (o p : OutputState) (held : Done) (refused : Bool) → turn < READER_CALLS
    → (AreSmall i → mid.calls ≡ i.calls + turn) → mid.failures ≡ i.failures → mid.ends ≡ i.ends → 0 < length buf
    → Gave mid j buf n → n ≡ 0 → Consumes i.left mid.left given
    → Noted (EndsInput (archive_handling way) noted_line (only_at_end S) (Stream kind) given) o p held
    → refused ≡ held.refused
    → GathersInput way S kind i j o p (Ok refused)
read_ends way S kind turn n buf given i mid j o p held refused in_time calls sound ends room gave none consumed h is =
    let nil : take n buf ≡ [] = rw none refl in
    let all : Consumes i.left j.left given =
    subst (Consumes i.left j.left) (ap (λ (l : List ℕ). given ++ l) nil ∙ append-nil given)
    (piece_consumed i mid j buf given n consumed gave) in
    record {
      outcome = record {
        input = given;
        lines = then_done (written [] h.notes) held;
        is_input = is_left_at_end i.left j.left given all (gave.at_end none room);
        ends = h.means;
        wrote = subst (WroteAll o p) (sym (ap (λ (l : List ℕ). h.notes ++ l) h.clear ∙ append-nil h.notes)) h.wrote;
        no_failure = gave.no_failure ∙ sound;
        refused_is = is;
      };
      few = few_gave i mid j turn n buf in_time calls sound ends room gave;
    }

-- a bad MSG-LEN came
pub read_finishes : (way : FrameReading) (S : List (List ℕ) → Type 0) (kind : Framing) (turn n : ℕ)
    (buf given : List ℕ)
    (i mid j : InputState) (o p : OutputState) (held : Done) (refused : Bool) → turn < READER_CALLS
    → (AreSmall i → mid.calls ≡ i.calls + turn) → mid.failures ≡ i.failures → mid.ends ≡ i.ends → 0 < length buf
    → Gave mid j buf n → Consumes i.left mid.left given
    → Noted (λ d. (more : List ℕ) → EndsInput (archive_handling way) noted_line (only_at_end S) (Stream kind)
    ((given ++ take n buf) ++ more) d) o p held → refused ≡ held.refused
    → GathersInput way S kind i j o p (Ok refused)
read_finishes way S kind turn n buf given i mid j o p held refused in_time calls sound ends room gave consumed h is =
    let more = is_left_more i.left j.left (given ++ take n buf) (piece_consumed i mid j buf given n consumed gave) in
    record {
      outcome = record {
        input = (given ++ take n buf) ++ more.0;
        lines = then_done (written [] h.notes) held;
        is_input = more.1;
        ends = h.means more.0;
        wrote = subst (WroteAll o p) (sym (ap (λ (l : List ℕ). h.notes ++ l) h.clear ∙ append-nil h.notes)) h.wrote;
        no_failure = gave.no_failure ∙ sound;
        refused_is = is;
      };
      few = few_gave i mid j turn n buf in_time calls sound ends room gave;
    }

-- a piece or the end stopped
gather_stops : (stop : SpillStop) (way : FrameReading) (kind : Framing) (given : List ℕ) (i j : InputState)
    (o p : OutputState) → StopsLines stop way kind given o p → Consumes i.left j.left given
    → j.failures ≡ i.failures → GatherStops stop way kind i j o p
gather_stops (Run Memory) way kind given i j o p h consumed sound =
    (sound, record { given = given; lines = h.0; consumed = consumed; means = h.1; wrote = h.2 })
gather_stops (Run Read) way kind given i j o p h consumed sound = absurd h
gather_stops (Run Endless) way kind given i j o p h consumed sound = absurd h
gather_stops (Run Write) way kind given i j o p h consumed sound = absurd h
gather_stops (Run Diagnostics) way kind given i j o p h consumed sound = h
gather_stops Spill way kind given i j o p h consumed sound =
    (sound, record { given = given; lines = h.0; consumed = consumed; means = h.1; wrote = h.2 })

pub read_stops : (stop : SpillStop) (way : FrameReading) (S : List (List ℕ) → Type 0) (kind : Framing) (turn n : ℕ)
    (buf given : List ℕ)
    (i mid j : InputState) (o p : OutputState) → turn < READER_CALLS
    → (AreSmall i → mid.calls ≡ i.calls + turn) → mid.failures ≡ i.failures → mid.ends ≡ i.ends → 0 < length buf
    → Gave mid j buf n → Consumes i.left mid.left given → StopsLines stop way kind (given ++ take n buf) o p
    → GathersInput way S kind i j o p (Err stop)
read_stops stop way S kind turn n buf given i mid j o p in_time calls sound ends room gave consumed h = record {
  outcome = gather_stops stop way kind (given ++ take n buf) i j o p h
      (piece_consumed i mid j buf given n consumed gave) (gave.no_failure ∙ sound);
  few = few_gave i mid j turn n buf in_time calls sound ends room gave;
}

-- at the end nothing was given
pub stops_at_end : (stop : SpillStop) (way : FrameReading) (kind : Framing) (n : ℕ) (buf given : List ℕ)
    (o p : OutputState) → n ≡ 0 → StopsLines stop way kind given o p → StopsLines stop way kind (given ++ take n buf) o p
stops_at_end stop way kind n buf given o p none h =
    let nil : take n buf ≡ [] = rw none refl in
    subst (λ (l : List ℕ). StopsLines stop way kind l o p)
    (sym (ap (λ (l : List ℕ). given ++ l) nil ∙ append-nil given)) h

-- ---- a piece

pub whole_items : (len : ℕ) (buf items : List ℕ) → length buf ≡ len → take len (buf ++ drop (length buf) items) ≡ buf
whole_items len buf items e =
    subst (λ (n : ℕ). take n (buf ++ drop (length buf) items) ≡ buf) e
    (take-append_seam buf (drop (length buf) items))

pub noted_goes : (way : FrameReading) (S : List (List ℕ) → Type 0) (s : Scan) (kind : Framing) (given : List ℕ)
    (number : ℕ) (n m : OutputState) (held : Done) → Noted (GoesOrEnds Continue way S s kind given number) n m held
    → Noted (HasHandled (archive_handling way) S s kind given number) n m held
noted_goes way S s kind given number n m held h =
    noted_weaker (GoesOrEnds Continue way S s kind given number)
    (HasHandled (archive_handling way) S s kind given number) n m held (λ d k. k) h

pub noted_ended : (way : FrameReading) (S : List (List ℕ) → Type 0) (s : Scan) (kind : Framing) (given : List ℕ)
    (number : ℕ) (n m : OutputState) (held : Done) → Noted (GoesOrEnds Finished way S s kind given number) n m held
    → Noted (λ d. (more : List ℕ) → EndsInput (archive_handling way) noted_line (only_at_end S) (Stream kind)
    (given ++ more) d) n m held
noted_ended way S s kind given number n m held h =
    noted_weaker (GoesOrEnds Finished way S s kind given number)
    (λ d. (more : List ℕ) → EndsInput (archive_handling way) noted_line (only_at_end S) (Stream kind) (given ++ more) d)
    n m held (λ d k. k) h
