-- What a server makes of one event.
use Rattle.std.specs.Prelude.{◌≡◌, ◌-◌, ◌==◌, ℕ, zero, suc, Bool, true, false, List, [], ◌++◌, length, slice_get, Option, Some, None}
use Rattle.std.specs.Prelude.{Result, Ok, Err}
use Rattle.collect_engine.specs.Receiving.{IfNotMemory, IfRefused, MayNotOpen, ReceivesAs}
use Rattle.collect_engine.specs.declared.receiving.Received.{Received}
use Rattle.collect_engine.specs.declared.receiving.Received.TheVariants as received
use Rattle.syslog_legacy.specs.declared.frame_reading.FrameReading.{FrameReading}
use Rattle.syslog_collect.specs.Collectors.{limit_of, reading_of}
use Rattle.syslog_collect.specs.History.{AcceptedEvent, Opened, Piece, Ended, Datagram, history_of}
use Rattle.syslog_collect.specs.declared.collector.Collector.{Collector}
use Rattle.syslog_collect.specs.declared.fault.CollectFault.{CollectFault}
use Rattle.syslog_collect.specs.declared.fault.CollectFault.TheVariants as fault
use Rattle.syslog_collect.specs.declared.outcome.Outcome.{Outcome}
use Rattle.socket_source.specs.declared.step.ServerStep.{ServerStep}
use Rattle.socket_source.specs.declared.step.ServerStep.TheVariants as step
use Rattle.serve_engine.specs.Lines.{is_bad_count}
use Rattle.serve_engine.specs.declared.serve_end.ServeEnd.TheVariants.{Memory}
use Rattle.serve_engine.specs.declared.turn.Turn.{Turn}
use Rattle.serve_engine.specs.declared.turn.Turn.TheVariants.{On, End}

-- how a collector reads frames, and how many connections it may have open
pub record Manner : Type 0 where
  pub reading : FrameReading
  pub limit : ℕ

abbrev pub manner_of : {S : Type 0} → Collector S → Manner
manner_of c = record { reading = reading_of c; limit = limit_of c }

-- the event of a step, with its connection's number
abbrev pub event_of : ServerStep → List ℕ → Option AcceptedEvent
event_of (step.Opened conn listener framing peer) octets = Some (Opened conn framing)
event_of (step.Piece conn len) octets = Some (Piece conn octets)
event_of (step.Ended conn end) octets = Some (Ended conn)
event_of (step.Datagram listener peer len) octets = Some (Datagram octets)
event_of (step.TurnedAway listener framing peer) octets = None
event_of (step.NotAllowed listener peer) octets = None
event_of (step.OverRate listener peer) octets = None
event_of step.Tick octets = None
event_of step.InputEnded octets = None
event_of step.Finished octets = None
event_of (step.Failed fault) octets = None

-- no frame waits, of any number
abbrev pub NoneOf : (ℕ → ℕ) → Type 0
NoneOf w = (d : ℕ) → w d ≡ 0

-- a collector in which no frame waits makes this of an event that comes after others; unless memory ran out, none waits
-- then; an opening is refused only where its number is open, or as many are as may be
abbrev pub IsReceivedAs : Manner → List AcceptedEvent → AcceptedEvent → Received → List Outcome
    → List AcceptedEvent → Type 0
IsReceivedAs way before e r os own = (w : ℕ → ℕ) × (v : ℕ → ℕ) × NoneOf w × IfNotMemory r (NoneOf v)
    × ReceivesAs way.reading (history_of before) w v e r os own
    × IfRefused r (MayNotOpen way.limit (history_of before) e)

-- what became of an end
abbrev pub ending_of : {U : Type 0} → Result U CollectFault → Received
ending_of (Ok u) = received.Accepted
ending_of (Err (fault.Unterminated start)) = received.Unterminated start
ending_of (Err (fault.Memory used)) = received.Refused
ending_of (Err fault.AlreadyOpen) = received.Refused
ending_of (Err fault.TooManyOpen) = received.Refused
ending_of (Err fault.NotOpen) = received.Refused
ending_of (Err fault.ConnFailed) = received.Refused
ending_of (Err fault.StreamTooLong) = received.Refused
ending_of (Err fault.Unreleased) = received.Refused

-- what became of an opening
abbrev pub opening_of : {U : Type 0} → Result U CollectFault → Received
opening_of (Ok u) = received.Accepted
opening_of (Err (fault.Memory used)) = received.Memory
opening_of (Err fault.AlreadyOpen) = received.Refused
opening_of (Err fault.TooManyOpen) = received.Refused
opening_of (Err fault.NotOpen) = received.Refused
opening_of (Err fault.ConnFailed) = received.Refused
opening_of (Err fault.StreamTooLong) = received.Refused
opening_of (Err fault.Unreleased) = received.Refused
opening_of (Err (fault.Unterminated start)) = received.Refused

-- how many frames wait of the connection whose piece came, where so many of each number do
abbrev pub waits_in : AcceptedEvent → (ℕ → ℕ) → ℕ
waits_in (Opened c k) v = 0
waits_in (Piece c o) v = v c
waits_in (Ended c) v = 0
waits_in (Datagram o) v = 0

-- how it goes on after a piece: it ends where a frame of it waits, as memory was wanted for its record
abbrev pub turn_after : Received → ℕ → Turn
turn_after received.Accepted waits = On
turn_after (received.Unterminated start) waits = On
turn_after received.Refused waits = On
turn_after received.Memory zero = On
turn_after received.Memory (suc waits) = End Memory

-- and after an opening or a datagram with the next step; after an end too, for which no memory is needed
abbrev pub turn_of : AcceptedEvent → Received → ℕ → Turn
turn_of (Opened c k) r waits = On
turn_of (Piece c o) r waits = turn_after r waits
turn_of (Ended c) r waits = turn_after r 1
turn_of (Datagram o) r waits = On

-- a collector makes this of an event that comes after others, and so it goes on
abbrev pub Receives : Manner → List AcceptedEvent → AcceptedEvent → List AcceptedEvent → Turn → Type 0
Receives way before e own turn = (r : Received) × (os : List Outcome) × (is : IsReceivedAs way before e r os own)
    × (turn ≡ turn_of e r (waits_in e is.1))

-- the last of outcomes is a bad count
abbrev pub bad_last : Option Outcome → Bool
bad_last None = false
bad_last (Some o) = is_bad_count o

abbrev pub ends_in_bad_count : List Outcome → Bool
ends_in_bad_count os = bad_last (slice_get os (length os - 1))

-- a connection is lost: it was not opened
abbrev pub loses_opening : Received → Bool
loses_opening received.Accepted = false
loses_opening (received.Unterminated start) = true
loses_opening received.Refused = true
loses_opening received.Memory = true

-- or its piece was refused, or ends in a bad count; or memory was wanted for it, and no frame of it waits
abbrev pub loses_piece : Received → List Outcome → ℕ → Bool
loses_piece received.Accepted os waits = ends_in_bad_count os
loses_piece (received.Unterminated start) os waits = ends_in_bad_count os
loses_piece received.Refused os waits = true
loses_piece received.Memory os waits = waits == 0

-- an event loses its connection
abbrev pub loses : AcceptedEvent → Received → List Outcome → ℕ → Bool
loses (Opened c k) r os waits = loses_opening r
loses (Piece c o) r os waits = loses_piece r os waits
loses (Ended c) r os waits = false
loses (Datagram o) r os waits = false

-- behind a piece whose connection is lost, that one ends, and it goes on; behind any other event nothing comes
abbrev pub EndsLost : Bool → Manner → List AcceptedEvent → AcceptedEvent → Received → ℕ → List AcceptedEvent → Turn
    → Type 0
EndsLost false way events e r waits closing turn = (closing ≡ []) × (turn ≡ turn_of e r waits)
EndsLost true way events (Opened c k) r waits closing turn = (closing ≡ []) × (turn ≡ On)
EndsLost true way events (Piece c o) r waits closing turn = Receives way events (Ended c) closing turn × (turn ≡ On)
EndsLost true way events (Ended c) r waits closing turn = ⊥
EndsLost true way events (Datagram o) r waits closing turn = ⊥

-- of an event that comes after others this is accepted: what a collector makes of it, and the end of a connection that
-- is lost
pub record IsAccepted (way : Manner) (before : List AcceptedEvent) (e : AcceptedEvent) (here : List AcceptedEvent)
    (lost : Bool) (turn : Turn) : Type 0 where
  pub received : Received
  pub outcomes : List Outcome
  pub own : List AcceptedEvent
  pub closing : List AcceptedEvent
  pub is : IsReceivedAs way before e received outcomes own
  pub all : here ≡ own ++ closing
  pub lost_as : lost ≡ loses e received outcomes (waits_in e is.1)
  pub ends : EndsLost lost way (before ++ own) e received (waits_in e is.1) closing turn
