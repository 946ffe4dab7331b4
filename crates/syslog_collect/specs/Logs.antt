-- The log of a run: the outcomes in the order in which the frames' last octets came, or bad counts were met.
use Rattle.std.specs.Prelude.{◌≡◌, ◌==◌, ◌⊎◌, ℕ, cond, List, [], ◌∷◌, ◌++◌, length, take, drop, IsSomeAnd}
use Rattle.syslog_frame.specs.declared.phase.Phase.{Phase}
use Rattle.syslog_frame.specs.declared.phase.Phase.TheVariants.{Counting, Inside, Ended as phase_Ended}
use Rattle.syslog_frame.specs.declared.phase.Phase.TheVariants.{BadCount as phase_BadCount, Failed}
use Rattle.archive_text.specs.Entries.{Entry}
use Rattle.syslog_legacy.specs.declared.frame_reading.FrameReading.{FrameReading}
use Rattle.syslog_collect.specs.declared.connection.Connection.{Connection}
use Rattle.syslog_collect.specs.declared.connections.Connections.{Connections}
use Rattle.syslog_collect.specs.declared.event.Event.{Event}
use Rattle.syslog_collect.specs.declared.event.Event.TheVariants.{Opened as event_Opened, Piece as event_Piece}
use Rattle.syslog_collect.specs.declared.event.Event.TheVariants.{Ended as event_Ended, Datagram as event_Datagram}
use Rattle.syslog_collect.specs.declared.event.EventEnd.{EventEnd}
use Rattle.syslog_collect.specs.declared.event.EventEnd.TheVariants.{Done as end_Done, Stopped as end_Stopped}
use Rattle.syslog_collect.specs.declared.event.RunEnd.{RunEnd}
use Rattle.syslog_collect.specs.declared.event.RunEnd.TheVariants.{Done, Stopped}
use Rattle.syslog_collect.specs.declared.fault.Advance.{Advance}
use Rattle.syslog_collect.specs.declared.fault.CollectFault.{CollectFault}
use Rattle.syslog_collect.specs.declared.fault.CollectFault.TheVariants.{AlreadyOpen, TooManyOpen, NotOpen, ConnFailed}
use Rattle.syslog_collect.specs.declared.fault.CollectFault.TheVariants.{StreamTooLong, Unreleased, Unterminated}
use Rattle.syslog_collect.specs.declared.fault.CollectFault.TheVariants.{Memory}
use Rattle.std.specs.Prelude.{Option, Some, None, Result, Ok, Err}
use Rattle.syslog_collect.specs.Answers.{ReportsBadCount}
use Rattle.syslog_collect.specs.Frames.{IsFramesOf}
use Rattle.syslog_collect.specs.History.{AcceptedEvent, Datagram, Ended, History, HoldsBadCount, Opened, Piece, Stream}
use Rattle.syslog_collect.specs.History.{accept, history_after, stream_of, with_octets}
use Rattle.syslog_collect.specs.Numbers.{connection_in}
use Rattle.syslog_collect.specs.Outcomes.{AreReported, IsOutcome}
use Rattle.syslog_collect.specs.Runs.{accepted_all, accepted_event}
use Rattle.syslog_collect.specs.declared.outcome.Outcome.{Outcome}

-- ---- frames that wait, since memory was refused for them

-- how many frames a scanner in this phase has ready: none or one
abbrev pub ready_count : Phase → ℕ
ready_count phase_Ended = 1
ready_count Counting = 0
ready_count Inside = 0
ready_count phase_BadCount = 0
ready_count Failed = 0

-- how many frames of a connection are ready and not handled
abbrev pub ready_in : Option Connection → ℕ
ready_in None = 0
ready_in (Some x) = ready_count x.scanner.phase

-- of the connection of a number
abbrev pub waiting : Connections → ℕ → ℕ
waiting cs c = ready_in (connection_in cs c)

-- the same after an event that was accepted: none of a number whose piece came
abbrev pub waiting_after : (ℕ → ℕ) → AcceptedEvent → ℕ → ℕ
waiting_after w (Opened c k) d = w d
waiting_after w (Piece c o) d = cond (c == d) 0 (w d)
waiting_after w (Ended c) d = w d
waiting_after w (Datagram o) d = w d

-- the same after events
abbrev pub waiting_after_all : (ℕ → ℕ) → List AcceptedEvent → ℕ → ℕ
waiting_after_all w [] d = w d
waiting_after_all w (e ∷ es) d = waiting_after_all (waiting_after w e) es d

-- the same after an advance of a number: none after Ok, and one where memory was refused
abbrev pub waiting_then : Result Advance CollectFault → ℕ → (ℕ → ℕ) → ℕ → ℕ
waiting_then (Ok a) c w d = cond (c == d) 0 (w d)
waiting_then (Err (Memory n)) c w d = cond (c == d) 1 (w d)
waiting_then (Err AlreadyOpen) c w d = w d
waiting_then (Err TooManyOpen) c w d = w d
waiting_then (Err NotOpen) c w d = w d
waiting_then (Err ConnFailed) c w d = w d
waiting_then (Err StreamTooLong) c w d = w d
waiting_then (Err Unreleased) c w d = w d
waiting_then (Err (Unterminated start)) c w d = w d

-- ---- the outcomes of events

-- the outcomes of an opening's frames where octets come, no bad count before them: of the frames that waited, and of
-- those that the octets complete, but for those that wait now
pub record LogsOctets (way : FrameReading) (s : Stream) (o : List ℕ) (waited waits : ℕ) (old new : List Entry)
    (os : List Outcome) : Type 0 where
  pub sound : ¬ (HoldsBadCount s)
  pub handled : List (List ℕ)
  pub waiting_before : List (List ℕ)
  pub logged : List (List ℕ)
  pub waiting_now : List (List ℕ)
  pub before : IsFramesOf s (handled ++ waiting_before)
  pub count_before : length waiting_before ≡ waited
  pub now : IsFramesOf (with_octets s o) (handled ++ (logged ++ waiting_now))
  pub count_now : length waiting_now ≡ waits
  pub outcomes : AreReported way old new logged os
  pub bad_count : ReportsBadCount os (with_octets s o)

-- octets of a number are handled, so that none of its frames waits
abbrev pub Reports : FrameReading → ℕ → List ℕ → History → ℕ → List Entry → List Entry → List Outcome → Type 0
Reports way c o h waited old new os = IsSomeAnd (stream_of c h.streams)
    (λ s. LogsOctets way s o waited 0 old new os)

-- the outcomes of an event, where so many frames waited
abbrev pub LogsEvent : FrameReading → History → (ℕ → ℕ) → AcceptedEvent → List Entry → List Entry → List Outcome
    → Type 0
LogsEvent way h w (Opened c k) old new os = (os ≡ []) × (new ≡ old)
LogsEvent way h w (Ended c) old new os = (os ≡ []) × (new ≡ old)
LogsEvent way h w (Datagram o) old new os = (x : Outcome) × (os ≡ x ∷ []) × IsOutcome way old new o x
LogsEvent way h w (Piece c o) old new os = Reports way c o h (w c) old new os

-- the outcomes of events, one after the other: w waited before, and v wait after them
abbrev pub IsLogOf : FrameReading → History → (ℕ → ℕ) → List AcceptedEvent → (ℕ → ℕ) → List Entry → List Entry
    → List Outcome
    → Type 0
IsLogOf way h w [] v old new os = (os ≡ []) × (new ≡ old) × ((d : ℕ) → v d ≡ w d)
IsLogOf way h w (e ∷ es) v old new os = (here : List Outcome) × (later : List Outcome) × (between : List Entry)
    × (os ≡ here ++ later) × LogsEvent way h w e old between here
    × IsLogOf way (accept h e) (waiting_after w e) es v between new later

-- ---- the outcomes of a run

-- nothing came
abbrev pub LogsNothing : (ℕ → ℕ) → (ℕ → ℕ) → List Entry → List Entry → List Outcome → Type 0
LogsNothing w v old new os = (os ≡ []) × (new ≡ old) × ((d : ℕ) → v d ≡ w d)

-- the outcomes of the octets of a number that were taken before it was refused: nothing; or, where the number holds no
-- bad count, a frame may wait now
abbrev pub LogsPart : FrameReading → History → (ℕ → ℕ) → (ℕ → ℕ) → ℕ → List ℕ → List Entry → List Entry
    → List Outcome → Type 0
LogsPart way h w v c o old new os = ((o ≡ []) × LogsNothing w v old new os)
    ⊎ (IsSomeAnd (stream_of c h.streams) (λ s. LogsOctets way s o (w c) (v c) old new os)
    × ((d : ℕ) → ¬ (c ≡ d) → v d ≡ w d))

-- the outcomes of a piece of a number
abbrev pub LogsPiece : FrameReading → History → (ℕ → ℕ) → (ℕ → ℕ) → ℕ → List ℕ → EventEnd → List Entry → List Entry
    → List Outcome → Type 0
LogsPiece way h w v c o end_Done old new os =
    LogsEvent way h w (Piece c o) old new os × ((d : ℕ) → v d ≡ waiting_after w (Piece c o) d)
LogsPiece way h w v c o (end_Stopped n fault) old new os = LogsPart way h w v c (take n o) old new os

-- of a datagram
abbrev pub LogsDatagram : FrameReading → List ℕ → EventEnd → List Entry → List Entry → List Outcome → Type 0
LogsDatagram way o end_Done old new os = (x : Outcome) × (os ≡ x ∷ []) × IsOutcome way old new o x
LogsDatagram way o (end_Stopped n fault) old new os = (os ≡ []) × (new ≡ old)

-- of an event that was refused after so many octets
abbrev pub LogsRefused : FrameReading → History → (ℕ → ℕ) → (ℕ → ℕ) → Event → ℕ → List Entry → List Entry → List Outcome
    → Type 0
LogsRefused way h w v (event_Opened c k) n old new os = LogsNothing w v old new os
LogsRefused way h w v (event_Piece c o) n old new os = LogsPart way h w v c (take n o.now) old new os
LogsRefused way h w v (event_Ended c) n old new os = LogsNothing w v old new os
LogsRefused way h w v (event_Datagram o) n old new os = LogsNothing w v old new os

-- of an event, as far as it went
abbrev pub LogsEventEnd : FrameReading → History → (ℕ → ℕ) → (ℕ → ℕ) → Event → EventEnd → List Entry → List Entry
    → List Outcome → Type 0
LogsEventEnd way h w v e end_Done old new os =
    LogsEvent way h w (accepted_event e) old new os × ((d : ℕ) → v d ≡ waiting_after w (accepted_event e) d)
LogsEventEnd way h w v e (end_Stopped n fault) old new os = LogsRefused way h w v e n old new os

-- of the first event, which was refused
abbrev pub LogsFirst : FrameReading → History → (ℕ → ℕ) → (ℕ → ℕ) → List Event → ℕ → List Entry → List Entry
    → List Outcome
    → Type 0
LogsFirst way h w v [] n old new os = ⊥
LogsFirst way h w v (e ∷ es) n old new os = LogsRefused way h w v e n old new os

-- the outcomes of a run: of all events; or of those before the one that was refused, and of what was taken there
abbrev pub LogsRun : FrameReading → History → (ℕ → ℕ) → (ℕ → ℕ) → List Event → RunEnd → List Entry → List Entry
    → List Outcome
    → Type 0
LogsRun way h w v es Done old new os = IsLogOf way h w (accepted_all es) v old new os
LogsRun way h w v es (Stopped at n fault) old new os =
    (u : ℕ → ℕ) × (here : List Outcome) × (later : List Outcome) × (between : List Entry)
    × (os ≡ here ++ later) × IsLogOf way h w (accepted_all (take at es)) u old between here
    × LogsFirst way (history_after h (accepted_all (take at es))) u v (drop at es) n between new later

-- a log grew by such outcomes
abbrev pub Grows : (List Outcome → Type 0) → List Outcome → List Outcome → Type 0
Grows P log_old log_new = (os : List Outcome) × (log_new ≡ log_old ++ os) × P os
