-- What a run of events accepts, and what it logs.
use Rattle.std.specs.Prelude.{◌≡◌, ℕ, ◌<◌, ◌≤◌, ◌⊎◌, List, [], ◌∷◌, ◌++◌, length, take, drop, Result, Ok, Err}
use Rattle.syslog_frame.specs.declared.phase.Phase.{Phase}
use Rattle.syslog_frame.specs.declared.phase.Phase.TheVariants.{Counting, Inside, Ended as phase_Ended}
use Rattle.syslog_frame.specs.declared.phase.Phase.TheVariants.{BadCount as phase_BadCount, Failed}
use Rattle.archive_text.specs.Entries.{Entry}
use Rattle.syslog_legacy.specs.declared.frame_reading.FrameReading.{FrameReading}
use Rattle.syslog_collect.specs.declared.connection.Connection.{Connection}
use Rattle.syslog_collect.specs.declared.event.Event.{Event}
use Rattle.syslog_collect.specs.declared.event.Event.TheVariants.{Opened as event_Opened, Piece as event_Piece}
use Rattle.syslog_collect.specs.declared.event.Event.TheVariants.{Ended as event_Ended, Datagram as event_Datagram}
use Rattle.syslog_collect.specs.declared.event.EventEnd.{EventEnd}
use Rattle.syslog_collect.specs.declared.event.EventEnd.TheVariants.{Done as end_Done, Stopped as end_Stopped}
use Rattle.syslog_collect.specs.declared.event.RunEnd.{RunEnd}
use Rattle.syslog_collect.specs.declared.event.RunEnd.TheVariants.{Done, Stopped}
use Rattle.syslog_collect.specs.declared.fault.CollectFault.{CollectFault}
use Rattle.syslog_collect.specs.declared.fault.CollectFault.TheVariants.{AlreadyOpen, TooManyOpen, NotOpen, ConnFailed}
use Rattle.syslog_collect.specs.declared.fault.CollectFault.TheVariants.{StreamTooLong, Unreleased, Unterminated}
use Rattle.syslog_collect.specs.declared.fault.CollectFault.TheVariants.{Memory}
use Rattle.syslog_collect.specs.declared.outcome.Outcome.{Outcome}
use Rattle.syslog_collect.specs.declared.piece.Step.{Step}
use Rattle.syslog_collect.specs.declared.piece.Step.TheVariants.{Stopped as step_Stopped, Ended as step_Ended, On}
use Rattle.syslog_collect.specs.Answers.{Advances}
use Rattle.syslog_collect.specs.History.{Datagram, Ended, Opened, Piece, Stream, AcceptedEvent}

-- how many octets were taken before a fault
abbrev pub used_before : CollectFault → ℕ
used_before (Memory n) = n
used_before AlreadyOpen = 0
used_before TooManyOpen = 0
used_before NotOpen = 0
used_before ConnFailed = 0
used_before StreamTooLong = 0
used_before Unreleased = 0
used_before (Unterminated start) = 0

-- no more is used than there is
abbrev pub IsStepWithin : List ℕ → Step → Type 0
IsStepWithin rest (step_Stopped used fault) = used ≤ length rest
IsStepWithin rest step_Ended = Unit {0}
IsStepWithin rest (On used) = used < length rest

-- where it was not refused
abbrev pub IfAccepted : Step → Type 0 → Type 0
IfAccepted (step_Stopped used fault) P = Unit {0}
IfAccepted step_Ended P = P
IfAccepted (On used) P = P

-- where an event was accepted
abbrev pub IfDone : EventEnd → Type 0 → Type 0
IfDone end_Done P = P
IfDone (end_Stopped n fault) P = Unit {0}

-- where a run accepted all events
abbrev pub IfAllDone : RunEnd → Type 0 → Type 0
IfAllDone Done P = P
IfAllDone (Stopped at n fault) P = Unit {0}

-- where more octets are left
abbrev pub OnGoing : Step → (ℕ → Type 0) → Type 0
OnGoing (step_Stopped used fault) P = Unit {0}
OnGoing step_Ended P = Unit {0}
OnGoing (On used) P = P used

-- the octets of a rest that a step accepted
abbrev pub step_octets : List ℕ → Step → List ℕ
step_octets rest (step_Stopped used fault) = take used rest
step_octets rest step_Ended = rest
step_octets rest (On used) = take used rest

-- the octets of a piece that were accepted
abbrev pub piece_octets : List ℕ → EventEnd → List ℕ
piece_octets piece end_Done = piece
piece_octets piece (end_Stopped taken fault) = take taken piece

-- a connection moved by octets; or there were none, and nothing changed
abbrev pub AdvancesOrStays : FrameReading → Connection → Connection → List Entry → List Entry → List ℕ
    → List Outcome → Stream
    → List (List ℕ) → Type 0
AdvancesOrStays way old new kept_old kept_new octets outcomes s handled =
    ((octets ≡ []) × (new ≡ old) × (kept_new ≡ kept_old) × (outcomes ≡ []))
    ⊎ Advances way old new kept_old kept_new octets outcomes s handled

-- octets moved it, and the log grew by the outcomes
abbrev pub LogsAdvance : FrameReading → Connection → Connection → List Entry → List Entry → List ℕ → List Outcome
    → List Outcome → Stream → List (List ℕ) → Type 0
LogsAdvance way old new kept_old kept_new octets log_old log_new s handled =
    (outcomes : List Outcome) × (log_new ≡ log_old ++ outcomes)
    × Advances way old new kept_old kept_new octets outcomes s handled

-- the same, or nothing came
abbrev pub Logs : FrameReading → Connection → Connection → List Entry → List Entry → List ℕ → List Outcome
    → List Outcome
    → Stream → List (List ℕ) → Type 0
Logs way old new kept_old kept_new octets log_old log_new s handled =
    (outcomes : List Outcome) × (log_new ≡ log_old ++ outcomes)
    × AdvancesOrStays way old new kept_old kept_new octets outcomes s handled

-- whether a frame or a bad count is ready, as a number
abbrev pub pending : Phase → ℕ
pending phase_Ended = 1
pending phase_BadCount = 1
pending Counting = 0
pending Inside = 0
pending Failed = 0

-- octets of a number, of which none are no event
abbrev pub nonempty_piece : ℕ → List ℕ → List AcceptedEvent
nonempty_piece c [] = []
nonempty_piece c (x ∷ xs) = Piece c (x ∷ xs) ∷ []

-- the end of a number, where it is refused: an unfinished frame ends the connection too
abbrev pub accepted_refused_end : ℕ → CollectFault → List AcceptedEvent
accepted_refused_end c (Unterminated start) = Ended c ∷ []
accepted_refused_end c AlreadyOpen = []
accepted_refused_end c TooManyOpen = []
accepted_refused_end c NotOpen = []
accepted_refused_end c ConnFailed = []
accepted_refused_end c StreamTooLong = []
accepted_refused_end c Unreleased = []
accepted_refused_end c (Memory n) = []

-- an event that was accepted
abbrev pub accepted_event : Event → AcceptedEvent
accepted_event (event_Opened c k) = Opened c k
accepted_event (event_Piece c o) = Piece c o.now
accepted_event (event_Ended c) = Ended c
accepted_event (event_Datagram o) = Datagram o.now

-- what an event adds that was refused after so many octets
abbrev pub accepted_part : Event → ℕ → CollectFault → List AcceptedEvent
accepted_part (event_Opened c k) n fault = []
accepted_part (event_Piece c o) n fault = nonempty_piece c (take n o.now)
accepted_part (event_Ended c) n fault = accepted_refused_end c fault
accepted_part (event_Datagram o) n fault = []

-- what an event adds, by how it ended
abbrev pub accepted_by : Event → EventEnd → List AcceptedEvent
accepted_by e end_Done = accepted_event e ∷ []
accepted_by e (end_Stopped n fault) = accepted_part e n fault

-- a piece's
abbrev pub accepted_piece_end : ℕ → List ℕ → EventEnd → List AcceptedEvent
accepted_piece_end c octets end_Done = Piece c octets ∷ []
accepted_piece_end c octets (end_Stopped n fault) = nonempty_piece c (take n octets)

-- a datagram's
abbrev pub accepted_datagram_end : List ℕ → EventEnd → List AcceptedEvent
accepted_datagram_end octets end_Done = Datagram octets ∷ []
accepted_datagram_end octets (end_Stopped n fault) = []

-- how an event ended whose call answered this
abbrev pub event_end : {U : Type 0} → Result U CollectFault → EventEnd
event_end (Ok u) = end_Done
event_end (Err fault) = end_Stopped 0 fault

-- what all events add
abbrev pub accepted_all : List Event → List AcceptedEvent
accepted_all [] = []
accepted_all (e ∷ es) = accepted_event e ∷ accepted_all es

-- the part of the first of the events
abbrev pub accepted_first : List Event → ℕ → CollectFault → List AcceptedEvent
accepted_first [] n fault = []
accepted_first (e ∷ es) n fault = accepted_part e n fault

-- what a run accepted: all events; or those before the one that was refused, and a part of that
abbrev pub accepted_run : List Event → RunEnd → List AcceptedEvent
accepted_run es Done = accepted_all es
accepted_run es (Stopped at n fault) = accepted_all (take at es) ++ accepted_first (drop at es) n fault
