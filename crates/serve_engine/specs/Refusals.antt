-- Frames that are refused, as they are kept.
use Rattle.std.specs.Prelude.{◌≡◌, ◌⊎◌, ◌-◌, ◌^◌, ◌<◌, ◌≤◌, ℕ, List, [], ◌∷◌, ◌++◌, length, codes, decimal, take}
use Rattle.std.specs.Prelude.{Bool, Option, Some, None}
use Rattle.std.specs.Io.KnownBytes.{Appends}
use Rattle.octet_devices.specs.Device.{OutputState}
use Rattle.collect_engine.specs.Receiving.{HearsReceived, IfNotMemory}
use Rattle.collect_engine.specs.declared.receiving.Received.{Received}
use Rattle.collect_engine.specs.declared.receiving.Received.TheVariants as received
use Rattle.syslog_collect.specs.History.{AcceptedEvent, Opened, Piece, Ended, Datagram, Stream, history_of, stream_of}
use Rattle.syslog_collect.specs.Observers.{HearsPiece}
use Rattle.syslog_collect.specs.declared.outcome.Outcome.{Outcome}
use Rattle.syslog_collect.specs.declared.outcome.Outcome.TheVariants.{New, Held, Refused, RefusedLegacy, TooLong}
use Rattle.syslog_collect.specs.declared.outcome.Outcome.TheVariants.{BadCount}
use Rattle.socket_source.specs.declared.step.ServerStep.{ServerStep}
use Rattle.socket_source.specs.declared.step.ServerStep.TheVariants as step
use Rattle.serve_engine.specs.Counts.{CountsBroken, CountsDropped, CountsEnd, CountsOpening, CountsSilent, broken_counted}
use Rattle.serve_engine.specs.Counts.{counted, not_allowed_counted, octets_counted, over_rate_counted}
use Rattle.serve_engine.specs.Events.{IsAccepted, Manner}
use Rattle.serve_engine.specs.declared.counts.ServeCounts.{ServeCounts}
use Rattle.serve_engine.specs.declared.report.Report.{Report}
use Rattle.serve_engine.specs.declared.turn.Turn.{Turn}
use Rattle.serve_engine.specs.declared.turn.Turn.TheVariants.{On, End}
use denote.Bor.{Bor}

-- a counted frame
abbrev pub counted_text : List ℕ → List ℕ
counted_text octets = decimal (length octets) ++ (codes " " ++ octets)

-- the octets of a frame, if it has some
abbrev pub octets_in : Option (Bor (List ℕ)) → Option (List ℕ)
octets_in None = None
octets_in (Some frame) = Some frame.now

-- a line, and behind a line feed the frame that it is on
abbrev pub refusal_text : List ℕ → Option (List ℕ) → List ℕ
refusal_text line None = line
refusal_text line (Some frame) = line ++ (codes "\n" ++ frame)

-- of a text the first octets were written, or none; the rest was dropped, and counted
abbrev pub DropsRest : OutputState → OutputState → List ℕ → ℕ → ℕ → Type 0
DropsRest old new text dropped dropped_new = ((sent : ℕ) × Appends old.taken new.taken (take sent text))
    × ((dropped < dropped_new) ⊎ (dropped_new ≡ 2 ^ 64 - 1))

-- a frame was written behind a line; or the rest of that was dropped
abbrev pub KeepsFrame : OutputState → OutputState → Option (List ℕ) → ℕ → ℕ → Type 0
KeepsFrame old new frame dropped dropped_new = (line : List ℕ)
    × (Appends old.taken new.taken (counted_text (refusal_text line frame))
    ⊎ DropsRest old new (counted_text (refusal_text line frame)) dropped dropped_new)

-- nothing was, though lines may have been dropped
abbrev pub KeepsNothing : OutputState → OutputState → ℕ → ℕ → Type 0
KeepsNothing old new dropped dropped_new = (new ≡ old) × (dropped ≤ dropped_new)

-- by its outcome a frame was kept with its octets; where it is too long, a line was written; else nothing was
abbrev pub KeepsOutcome : OutputState → OutputState → Outcome → Option (List ℕ) → ℕ → ℕ → Type 0
KeepsOutcome old new New frame dropped dropped_new = KeepsNothing old new dropped dropped_new
KeepsOutcome old new Held frame dropped dropped_new = KeepsNothing old new dropped dropped_new
KeepsOutcome old new (Refused fault) frame dropped dropped_new = KeepsFrame old new frame dropped dropped_new
KeepsOutcome old new (RefusedLegacy offset) frame dropped dropped_new = KeepsFrame old new frame dropped dropped_new
KeepsOutcome old new TooLong frame dropped dropped_new = KeepsFrame old new None dropped dropped_new
KeepsOutcome old new (BadCount at) frame dropped dropped_new = KeepsNothing old new dropped dropped_new

-- where lines go, and the frames that are kept
abbrev pub outputs_in : {N R : Type 0} → Report N R → N × R
outputs_in report = (report.notes, report.refused)

-- where the frames go that are kept, and what was counted
abbrev pub kept_in : {N R : Type 0} → (R → OutputState) → Report N R → OutputState × ServeCounts
kept_in state report = (state report.refused, report.counts)

-- nothing was kept
abbrev pub KeepsNone : OutputState × ServeCounts → OutputState × ServeCounts → Type 0
KeepsNone old new = KeepsNothing old.0 new.0 old.1.dropped new.1.dropped

-- of no frame: nothing was, and no more is counted than bad counts
abbrev pub KeepsNoFrame : OutputState × ServeCounts → OutputState × ServeCounts → Type 0
KeepsNoFrame old new = KeepsNone old new × CountsBroken old.1 new.1

-- a peer that may not send is counted
abbrev pub peer_counted : OutputState × ServeCounts → OutputState × ServeCounts
peer_counted old = (old.0, not_allowed_counted old.1)

-- a datagram above the rate of its peer is counted
abbrev pub dropped_counted : OutputState × ServeCounts → OutputState × ServeCounts
dropped_counted old = (old.0, over_rate_counted old.1)

-- each is, where a step says so
abbrev pub with_peer : ServerStep → OutputState × ServeCounts → OutputState × ServeCounts
with_peer (step.Opened conn listener framing peer) old = old
with_peer (step.Piece conn len) old = old
with_peer (step.Ended conn end) old = old
with_peer (step.Datagram listener peer len) old = old
with_peer (step.TurnedAway listener framing peer) old = old
with_peer (step.NotAllowed listener peer) old = peer_counted old
with_peer (step.OverRate listener peer) old = dropped_counted old
with_peer step.Tick old = old
with_peer step.InputEnded old = old
with_peer step.Finished old = old
with_peer (step.Failed fault) old = old

-- where a step has no event, nothing was, and nothing that came is counted
abbrev pub KeepsSilent : Bool → OutputState × ServeCounts → OutputState × ServeCounts → Type 0
KeepsSilent due old new = KeepsNone old new × CountsSilent due old.1 new.1

-- the frame of an outcome was kept there, if it is to be, and the outcome was counted
abbrev pub KeepsNext : OutputState × ServeCounts → Outcome → Option (List ℕ) → OutputState × ServeCounts → Type 0
KeepsNext old outcome frame new = KeepsOutcome old.0 new.0 outcome frame old.1.dropped new.1.dropped
    × CountsDropped (counted old.1 outcome) new.1

-- where memory was wanted and it goes on, something is lost: it is counted as broken, and a line may be written
abbrev pub CountsLost : Received → Turn → OutputState × ServeCounts → OutputState × ServeCounts → Type 0
CountsLost received.Accepted turn old new = new ≡ old
CountsLost (received.Unterminated start) turn old new = new ≡ old
CountsLost received.Refused turn old new = new ≡ old
CountsLost received.Memory On old new = KeepsNone old new × CountsDropped (broken_counted old.1) new.1
CountsLost received.Memory (End end) old new = new ≡ old

-- octets came, and were counted
abbrev pub come : List ℕ → OutputState × ServeCounts → OutputState × ServeCounts
come octets old = (old.0, octets_counted old.1 (length octets))

-- octets were, once for each outcome that asks for it
abbrev pub KeepsEach : List ℕ → List Outcome → OutputState × ServeCounts → OutputState × ServeCounts → Type 0
KeepsEach octets [] old new = new ≡ old
KeepsEach octets (o ∷ os) old new =
    (between : OutputState × ServeCounts) × KeepsNext old o (Some octets) between × KeepsEach octets os between new

-- where no frame waits, the frames were that a piece completes, outcome by outcome, and then no other
abbrev pub KeepsPiece : Option Stream → List ℕ → List Outcome → OutputState × ServeCounts → OutputState × ServeCounts
    → Type 0
KeepsPiece stream octets outcomes old new = (between : OutputState × ServeCounts)
    × HearsPiece KeepsNext stream octets 0 0 [] outcomes old between × KeepsNoFrame between new

-- of what was accepted of a piece, the frames were whose outcomes it has, and what is lost is counted; where all of it was,
-- these are its frames; where it was passed over, none was
pub record KeepsFrames {way : Manner} {before : List AcceptedEvent} {c : ℕ} {octets : List ℕ}
    {here : List AcceptedEvent} {lost : Bool} {turn : Turn}
    (taken : IsAccepted way before (Piece c octets) here lost turn) (old new : OutputState × ServeCounts) : Type 0 where
  pub told : (between : OutputState × ServeCounts)
      × HearsReceived KeepsNext (stream_of c (history_of before).streams) octets (taken.is.0 c) (taken.is.1 c)
      taken.outcomes old between × CountsLost taken.received turn between new
  pub whole : taken.own ≡ Piece c octets ∷ [] → IfNotMemory taken.received (KeepsPiece
      (stream_of c (history_of before).streams) octets taken.outcomes old new)
  pub passed : taken.own ≡ [] → taken.received ≡ received.Accepted → KeepsNoFrame old new

-- of what was accepted of an event: of a datagram it is the whole; an opening and an end have no frame, and are counted
abbrev pub KeepsEvent : {way : Manner} {before here : List AcceptedEvent} {lost : Bool} {turn : Turn}
    (e : AcceptedEvent) → IsAccepted way before e here lost turn → OutputState × ServeCounts
    → OutputState × ServeCounts → Type 0
KeepsEvent (Opened c k) taken old new = KeepsNone old new × CountsOpening taken.received old.1 new.1
KeepsEvent (Piece c octets) taken old new = KeepsFrames taken (come octets old) new
KeepsEvent (Ended c) taken old new = KeepsNone old new × CountsEnd taken.received old.1 new.1
KeepsEvent {turn = turn} (Datagram octets) taken old new = (between : OutputState × ServeCounts)
    × KeepsEach octets taken.outcomes (come octets old) between × CountsLost taken.received turn between new
