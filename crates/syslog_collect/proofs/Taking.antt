-- How much of a piece an advance takes.
use Rattle.std.proofs.Common.{◌≡◌, ℕ, zero, suc, ◌+◌, ◌<◌, List, [], ◌∷◌, ◌++◌, length, get_or, take, inl}
use Rattle.std.proofs.Common.{inr, sym, ap, subst, ◌∙◌, arith}
use Rattle.std.proofs.lemmas.List.{append-nil, length-append}
use Rattle.std.specs.Prelude.{◌⊎◌, Option, Some, None, Result, IfSome}
use Rattle.syslog_frame.specs.Scan.{Scan, HasBadCount, HasReady, IsFailed, IsReading, Stands as scanner_Stands}
use Rattle.syslog_frame.specs.Frames.{framed}
use Rattle.syslog_frame.specs.Takes.{Takes}
use Rattle.syslog_frame.specs.declared.framing.Framing.{Framing}
use Rattle.syslog_frame.specs.declared.limits.TheConstants.{FRAME_MAX, POSITION_MAX}
use Rattle.syslog_frame.specs.declared.phase.Phase.{Phase}
use Rattle.syslog_frame.specs.declared.phase.Phase.TheVariants.{Ended, BadCount as phase_BadCount, Failed}
use Rattle.syslog_frame.proofs.Calls.{none_unless_frame}
use Rattle.syslog_frame.proofs.Reading.{frames_with}
use Rattle.archive_text.specs.Entries.{Entry}
use Rattle.syslog_legacy.specs.declared.frame_reading.FrameReading.{FrameReading}
use Rattle.syslog_collect.specs.declared.connection.Connection.{Connection}
use Rattle.syslog_collect.specs.declared.fault.Advance.{Advance}
use Rattle.syslog_collect.specs.declared.fault.CollectFault.{CollectFault}
use Rattle.syslog_collect.specs.declared.outcome.Outcome.{Outcome}
use Rattle.syslog_collect.specs.declared.outcome.Outcome.TheVariants.{New, Held, Refused, RefusedLegacy, TooLong}
use Rattle.syslog_collect.specs.declared.outcome.Outcome.TheVariants.{BadCount}
use Rattle.syslog_collect.specs.Answers.{ComesInTurn, EndsFrameWith, IsTaken, IsWholeWith, StopsRight}
use Rattle.syslog_collect.specs.History.{AcceptedEvent, Stream, history_of, stream_of}
use Rattle.syslog_collect.specs.Logs.{ready_count}
use Rattle.syslog_collect.specs.Outcomes.{HandlesFrame, HandlesReady, HasRecord}
use Rattle.syslog_collect.specs.Standing.{IsAt, IsOpenAt}
use Rattle.syslog_collect.proofs.Ordered.{StandsOrdered as Stands, waiting_in as waiting}
use Rattle.syslog_collect.proofs.Moving.{IsPushed, ended_or_not, open_unless_failed, position_of}
use Rattle.syslog_collect.proofs.Places.{found_here, opening_at, place_from}
use Rattle.syslog_collect.proofs.Waiting.{ready_none, waiting_at}

-- octets that were pushed come in their turn
pub in_turn : (c : Connection) (s : Stream) (handled : List (List ℕ)) (piece : List ℕ) (n : ℕ) → ¬ (IsFailed c.scanner)
    → ¬ (IsReading c.scanner × (POSITION_MAX < c.scanner.position + length piece)) → (HasReady c.scanner → n ≡ 0)
    → IsAt c s handled → ComesInTurn piece (ready_count c.scanner.phase) n s
in_turn c s handled piece n live fits waits at =
    let here = open_unless_failed c s handled live at in
    elim (ended_or_not c.scanner.phase) [
      | inl frame ↦ inl (ap (λ (p : Phase). ready_count p) frame, waits (inl frame))
      | inr other ↦
          let reading : IsReading c.scanner = (
            λ ready.
                elim ready [ inl frame ↦ other frame | inr bad ↦ here.good bad ],
            live,
          ) in
          let past : ¬ (POSITION_MAX < c.scanner.position + length piece) = λ lt. fits (reading, lt) in
          inr (ready_none c.scanner.phase other, omega (arith, position_of c.scanner s handled here, past))
    ]

apart : (phase : Phase) → phase ≡ Failed → phase ≡ Ended → ⊥
apart phase a b = absurd cc

apart_bad : (phase : Phase) → phase ≡ Failed → phase ≡ phase_BadCount → ⊥
apart_bad phase a b = absurd cc

-- nothing is ready, so that all was taken
all_taken : (kind : Framing) (p piece : List ℕ) (n : ℕ) (mid : Scan) → Takes kind p piece n mid
    → IsReading mid ⊎ IsFailed mid → n ≡ length piece
all_taken kind p piece n mid (inl (completes, frame)) (inl reading) = absurd (reading.0 (inl frame))
all_taken kind p piece n mid (inl (completes, frame)) (inr failed) = absurd (apart mid.phase failed frame)
all_taken kind p piece n mid (inr (inl (breaks, bad))) (inl reading) = absurd (reading.0 (inr bad))
all_taken kind p piece n mid (inr (inl (breaks, bad))) (inr failed) = absurd (apart_bad mid.phase failed bad)
all_taken kind p piece n mid (inr (inr (goes, reading))) quiet = goes.all

module _ (way : FrameReading) (old : Connection) (mid : Scan) (a b : List Entry) (piece : List ℕ) (n : ℕ) (s : Stream)
    (handled : List (List ℕ)) (here : IsOpenAt old.scanner s handled) (p : IsPushed old.scanner mid piece n) where
  -- a frame is ready, so that the octets are whole frames
  whole_with : (o : Outcome) → HandlesFrame way mid a b o → IsWholeWith (take n piece) s
  whole_with o (ready, h) =
      let on = (p.reads s.framing 0 s.octets handled here.rest here.reads here.good).reads in
      let f = h s.framing 0 (s.octets ++ take n piece) handled (here.rest ++ take n piece) on in (
        handled ++ f.0 ∷ [],
        frames_with FRAME_MAX mid s.framing 0 (s.octets ++ take n piece) handled
            (here.rest ++ take n piece) f.0 on f.1,
      )

  pub stops_open : (o : Option Outcome) → HandlesReady way mid a b o
      → ((kind : Framing) (position : ℕ) (q : List ℕ) → scanner_Stands FRAME_MAX old.scanner kind position q
      → ¬ (HasBadCount old.scanner) → Takes kind q piece n mid) → StopsRight piece n o s
  stops_open None (quiet, same) takes = all_taken s.framing here.rest piece n mid
      (takes s.framing (0 + length s.octets) here.rest here.reads.stands here.good) quiet
  stops_open (Some (BadCount at)) (bad, is, same) takes =
      omega (arith, is, p.position, position_of old.scanner s handled here)
  stops_open (Some New) h takes = whole_with New h
  stops_open (Some Held) h takes = whole_with Held h
  stops_open (Some (Refused fault)) h takes = whole_with (Refused fault) h
  stops_open (Some (RefusedLegacy offset)) h takes = whole_with (RefusedLegacy offset) h
  stops_open (Some TooLong) h takes = whole_with TooLong h

-- octets that were pushed stop where they should
pub stops_right : (way : FrameReading) (old : Connection) (mid : Scan) (a b : List Entry) (piece : List ℕ) (n : ℕ)
    (o : Option Outcome) (s : Stream) (handled : List (List ℕ)) → IsPushed old.scanner mid piece n
    → HandlesReady way mid a b o
    → ((kind : Framing) (position : ℕ) (q : List ℕ) → scanner_Stands FRAME_MAX old.scanner kind position q
    → ¬ (HasBadCount old.scanner) → Takes kind q piece n mid) → IsAt old s handled → StopsRight piece n o s
stops_right way old mid a b piece n o s handled p h takes at =
    stops_open way old mid a b piece n s handled (open_unless_failed old s handled p.live at) p o h takes

-- octets that were pushed are all of the frame that is ready
pub ends_frame : (way : FrameReading) (c : Connection) (mid : Scan) (s : Stream) (handled : List (List ℕ))
    (piece : List ℕ) (n : ℕ) → IsPushed c.scanner mid piece n → HasRecord way mid → IsAt c s handled
    → EndsFrameWith (take n piece) s
ends_frame way c mid s handled piece n p record_ready at =
    let here = open_unless_failed c s handled p.live at in
    let on = (p.reads s.framing 0 s.octets handled here.rest here.reads here.good).reads in
    let f = record_ready s.framing 0 (s.octets ++ take n piece) handled (here.rest ++ take n piece) on in
    let all : length here.rest + length (take n piece) ≡ length (framed s.framing f.0) =
    sym (length-append here.rest (take n piece)) ∙ ap (λ (u : List ℕ). length u) f.1.1 in (
      handled,
      f.0,
      frames_with FRAME_MAX mid s.framing 0 (s.octets ++ take n piece) handled (here.rest ++ take n piece) f.0 on f.1,
      omega (arith, all),
    )

-- where a frame is ready, one waited or an octet was taken
pub some_taken : (way : FrameReading) (c : Connection) (mid : Scan) (s : Stream) (handled : List (List ℕ))
    (piece : List ℕ) (n : ℕ) → IsPushed c.scanner mid piece n → HasRecord way mid → IsAt c s handled
    → 0 < ready_count c.scanner.phase + n
some_taken way c mid s handled piece zero p record_ready at =
    let here = open_unless_failed c s handled p.live at in
    elim (ended_or_not c.scanner.phase) [
      | inl frame ↦ omega (arith, ap (λ (phase : Phase). ready_count phase) frame)
      | inr other ↦
          let on = (p.reads s.framing 0 s.octets handled here.rest here.reads here.good).reads in
          let f = record_ready s.framing 0 (s.octets ++ take zero piece) handled (here.rest ++ take zero piece) on in
          absurd (none_unless_frame FRAME_MAX c.scanner s.framing (0 + length s.octets) here.rest other
          here.reads.stands (here.rest ++ []) [] (sym (append-nil (here.rest ++ []) ∙ append-nil here.rest))
          (f.0, f.1))
    ]
some_taken way c mid s handled piece (suc n) p record_ready at = omega arith

-- what is taken at the connection that was found
pub taken_found : (way : FrameReading) (c n : ℕ) (x : Connection) (ls : List Connection) (kept first : List Entry)
    (es : List AcceptedEvent) (piece : List ℕ) (r : Result Advance CollectFault)
    → place_from c 0 ls ≡ Some n → x ≡ get_or ls n x
    → ((s : Stream) (d : List (List ℕ)) → IsAt x s d → IsTaken piece (ready_count x.scanner.phase) r s)
    → Stands way ls kept first es
    → IfSome (stream_of c (history_of es).streams) (IsTaken piece (waiting ls c) r)
taken_found way c n x ls kept first es piece r is item taken was =
    let here = found_here c n x ls is item in
    let there = opening_at c n x ls (history_of es).streams was.stands_at.handled was.stands_at.follow here in
    rw there.is (subst (λ (k : ℕ). IsTaken piece k r there.opening) (sym (waiting_at c n x ls here))
    (taken there.opening there.handled there.at))

-- a number that is not open
pub taken_none : (o : Option Stream) (P : Stream → Type 0) → o ≡ None → IfSome o P
taken_none o P none = subst (λ (q : Option Stream). IfSome q P) (sym none) tt
