-- What a server does with the steps of a source.
use Rattle.std.specs.Prelude.{◌≡◌, ◌⊎◌, ◌↔◌, ℕ, Bool, true, false, List, [], ◌++◌, Option, Some, None}
use Rattle.archive_text.specs.Entries.{Entry, Has}
use Rattle.octet_devices.specs.Device.{OutputState}
use Rattle.syslog_legacy.specs.declared.frame_reading.FrameReading.{FrameReading}
use Rattle.syslog_collect.specs.Collectors.{NoneWaits}
use Rattle.syslog_collect.specs.Frames.{IsReceived}
use Rattle.syslog_collect.specs.History.{AcceptedEvent}
use Rattle.socket_source.specs.Steps.{Closes, GaveStep, Given, SourceState, given_of}
use Rattle.socket_source.specs.declared.step.ServerStep.{ServerStep}
use Rattle.socket_source.specs.declared.step.ServerStep.TheVariants as step
use Rattle.serve_engine.specs.Events.{IsAccepted, Manner, event_of, manner_of}
use Rattle.serve_engine.specs.Intakes.{IsCommitted, StandsBy}
use Rattle.serve_engine.specs.Keepings.{Kept, StaysCommitted}
use Rattle.serve_engine.specs.Refusals.{KeepsEvent, with_peer}
use Rattle.serve_engine.specs.declared.counts.ServeCounts.{ServeCounts}
use Rattle.serve_engine.specs.declared.intake.Intake.{Intake}
use Rattle.serve_engine.specs.declared.keeping.KeepFault.{KeepFault}
use Rattle.serve_engine.specs.declared.keeping.KeepFault.TheVariants as keep
use Rattle.serve_engine.specs.declared.serve_end.ServeEnd.{ServeEnd}
use Rattle.serve_engine.specs.declared.serve_end.ServeEnd.TheVariants.{Finished, Source, Disk, Memory, Endless}
use Rattle.serve_engine.specs.declared.turn.Turn.{Turn}
use Rattle.serve_engine.specs.declared.turn.Turn.TheVariants.{On, End}

-- ---- steps

-- after a step all is committed
abbrev pub asks_commit : ServerStep → Bool
asks_commit (step.Opened conn listener framing peer) = false
asks_commit (step.Piece conn len) = false
asks_commit (step.Ended conn end) = false
asks_commit (step.Datagram listener peer len) = false
asks_commit (step.TurnedAway listener framing peer) = false
asks_commit (step.NotAllowed listener peer) = false
asks_commit (step.OverRate listener peer) = false
asks_commit step.Tick = true
asks_commit step.InputEnded = false
asks_commit step.Finished = true
asks_commit (step.Failed fault) = true

-- of a step: what its event says, and what is refused of that is kept; where it has none, nothing, and unless a commit is
-- asked for it goes on
abbrev pub ServesEvent : Manner → List AcceptedEvent → ServerStep → Option AcceptedEvent → List AcceptedEvent
    → Bool → Turn → OutputState × ServeCounts → OutputState × ServeCounts → Type 0
ServesEvent way before s None here lost turn was now =
    (here ≡ []) × (lost ≡ false) × (asks_commit s ≡ false → turn ≡ On)
ServesEvent way before s (Some e) here lost turn was now =
    (taken : IsAccepted way before e here lost turn) × KeepsEvent e taken was now

-- a connection was closed where it is lost
abbrev pub ClosesLost : Bool → SourceState → SourceState → ℕ → Type 0
ClosesLost false old new conn = new ≡ old
ClosesLost true old new conn = Closes old new conn

-- after a step its connection is, where it is lost, and no other
abbrev pub ClosesOwn : Bool → SourceState → SourceState → ServerStep → Type 0
ClosesOwn lost old new (step.Opened conn listener framing peer) = ClosesLost lost old new conn
ClosesOwn lost old new (step.Piece conn len) = ClosesLost lost old new conn
ClosesOwn lost old new (step.Ended conn end) = new ≡ old
ClosesOwn lost old new (step.Datagram listener peer len) = new ≡ old
ClosesOwn lost old new (step.TurnedAway listener framing peer) = new ≡ old
ClosesOwn lost old new (step.NotAllowed listener peer) = new ≡ old
ClosesOwn lost old new (step.OverRate listener peer) = new ≡ old
ClosesOwn lost old new step.Tick = new ≡ old
ClosesOwn lost old new step.InputEnded = new ≡ old
ClosesOwn lost old new step.Finished = new ≡ old
ClosesOwn lost old new (step.Failed fault) = new ≡ old

-- a source gave a step, and then its connection was closed where it is lost
pub record GivesStep (old new : SourceState) (g : Given) (lost : Bool) : Type 0 where
  pub between : SourceState
  pub buf : List ℕ
  pub gave : GaveStep old between g.step buf
  pub given : g ≡ given_of g.step buf
  pub closes : ClosesOwn lost between new g.step

-- ---- turns

-- a source gave the step of a turn; where it has none, the source was asked for none
abbrev pub Gave : SourceState → SourceState → Option Given → Bool → Type 0
Gave old new None lost = new ≡ old
Gave old new (Some g) lost = GivesStep old new g lost

-- the event of that step, if there is one
abbrev pub event_in : Option Given → Option AcceptedEvent
event_in None = None
event_in (Some g) = event_of g.step g.octets

-- what was kept and counted, with a peer of that step that may not send
abbrev pub with_peer_in : Option Given → OutputState × ServeCounts → OutputState × ServeCounts
with_peer_in None was = was
with_peer_in (Some g) was = with_peer g.step was

-- the step was served behind other events; where there is none nothing came
abbrev pub Served : Manner → List AcceptedEvent → Option Given → List AcceptedEvent → Bool → Turn → OutputState × ServeCounts
    → OutputState × ServeCounts → Type 0
Served way before None here lost turn was now = (here ≡ []) × (lost ≡ false)
Served way before (Some g) here lost turn was now =
    ServesEvent way before g.step (event_of g.step g.octets) here lost turn was now

-- unless memory ran out
abbrev pub UnlessMemory : ServeEnd → Type 0 → Type 0
UnlessMemory Finished P = P
UnlessMemory (Source fault) P = P
UnlessMemory Disk P = P
UnlessMemory Memory P = Unit {0}
UnlessMemory Endless P = P

-- where it goes on, and where it ends for another cause than memory
abbrev pub IfSettled : Turn → Type 0 → Type 0
IfSettled On P = P
IfSettled (End end) P = UnlessMemory end P

-- a piece ends a run only where memory ran out
abbrev pub IsEventTurn : Turn → Type 0
IsEventTurn turn = (turn ≡ On) ⊎ (turn ≡ End Memory)

-- unless what came waits for a disk with room or for memory, or the disk has failed, or memory ran out
abbrev pub UnlessStopped : Turn → Bool → Type 0 → Type 0
UnlessStopped On full P = full ≡ false → P
UnlessStopped (End Finished) full P = P
UnlessStopped (End (Source fault)) full P = P
UnlessStopped (End Disk) full P = Unit {0}
UnlessStopped (End Memory) full P = Unit {0}
UnlessStopped (End Endless) full P = Unit {0}

-- a commit is due in a turn: its step asks for one; or it has none, as the disk was full, and is tried again, or memory is
-- short
abbrev pub is_due : Option Given → Bool
is_due None = true
is_due (Some g) = asks_commit g.step

-- where all that came was committed before a run ended
abbrev pub IfCommitted : ServeEnd → Type 0 → Type 0
IfCommitted Finished P = P
IfCommitted (Source fault) P = P
IfCommitted Disk P = Unit {0}
IfCommitted Memory P = Unit {0}
IfCommitted Endless P = Unit {0}

-- a step is the last one that a source gives: it has finished or failed
abbrev pub is_last : ServerStep → Bool
is_last (step.Opened conn listener framing peer) = false
is_last (step.Piece conn len) = false
is_last (step.Ended conn end) = false
is_last (step.Datagram listener peer len) = false
is_last (step.TurnedAway listener framing peer) = false
is_last (step.NotAllowed listener peer) = false
is_last (step.OverRate listener peer) = false
is_last step.Tick = false
is_last step.InputEnded = false
is_last step.Finished = true
is_last (step.Failed fault) = true

-- so is that of a turn
abbrev pub is_over : Option Given → Bool
is_over None = false
is_over (Some g) = is_last g.step

-- it says that octets came on a connection
abbrev pub is_piece : ServerStep → Bool
is_piece (step.Opened conn listener framing peer) = false
is_piece (step.Piece conn len) = true
is_piece (step.Ended conn end) = false
is_piece (step.Datagram listener peer len) = false
is_piece (step.TurnedAway listener framing peer) = false
is_piece (step.NotAllowed listener peer) = false
is_piece (step.OverRate listener peer) = false
is_piece step.Tick = false
is_piece step.InputEnded = false
is_piece step.Finished = false
is_piece (step.Failed fault) = false

-- why a step ends a run: it says so; or the disk failed at a commit; or memory ran out for a record of a piece
abbrev pub IsStepTurn : ServerStep → Turn → Type 0
IsStepTurn s On = Unit {0}
IsStepTurn s (End Finished) = s ≡ step.Finished
IsStepTurn s (End (Source fault)) = s ≡ step.Failed fault
IsStepTurn s (End Disk) = asks_commit s ≡ true
IsStepTurn s (End Memory) = is_piece s ≡ true
IsStepTurn s (End Endless) = ⊥

-- the same where it had none
abbrev pub IsTryTurn : Turn → Type 0
IsTryTurn On = Unit {0}
IsTryTurn (End Finished) = ⊥
IsTryTurn (End (Source fault)) = ⊥
IsTryTurn (End Disk) = Unit {0}
IsTryTurn (End Memory) = ⊥
IsTryTurn (End Endless) = ⊥

-- of the step of a turn
abbrev pub IsCause : Option Given → Turn → Type 0
IsCause None turn = IsTryTurn turn
IsCause (Some g) turn = IsStepTurn g.step turn

-- ---- an intake

-- wherever an intake stood, it stands behind what is accepted of an event, and what is refused of that was kept
abbrev pub Accepts : {S K : Type 0} → (S → List Entry) → (K → Kept → Type 0) → Intake S K → Intake S K → AcceptedEvent
    → Bool → Turn → OutputState × ServeCounts → OutputState × ServeCounts → Type 0
Accepts entries stands old new e lost turn was now =
    (k : Kept) (first : List Entry) (before : List AcceptedEvent) → StandsBy entries stands old k first before
    → NoneWaits old.collector → (here : List AcceptedEvent) × StandsBy entries stands new k first (before ++ here)
    × (taken : IsAccepted (manner_of old.collector) before e here lost turn) × KeepsEvent e taken was now
    × IfSettled turn (NoneWaits new.collector)

-- a commit ends a run only where the disk failed
abbrev pub IsCommitTurn : Turn → Type 0
IsCommitTurn turn = (turn ≡ On) ⊎ (turn ≡ End Disk)

-- by what fault: for a full disk and for want of memory it waits, and goes on; for a disk that failed it ends
abbrev pub FaultsAs : KeepFault → Bool → Turn → Type 0
FaultsAs keep.Full full turn = (turn ≡ On) × (full ≡ true)
FaultsAs keep.Failed full turn = turn ≡ End Disk
FaultsAs keep.Memory full turn = (turn ≡ On) × (full ≡ true)

-- where what came waits, that was told
abbrev pub IsToldFull : Bool → Bool → Type 0
IsToldFull full told = full ≡ true → told ≡ true

-- that was told before still is; and where the turn goes on, it is told where the disk is full then
abbrev pub TellsFull : Turn → Bool → Bool → Bool → Type 0
TellsFull turn told full told_new = (told ≡ true → told_new ≡ true) × (turn ≡ On → IsToldFull full told_new)

-- it ends so, unless the disk is full
abbrev pub EndsUnlessFull : Bool → ServeEnd → Turn → Type 0
EndsUnlessFull full end turn = ((turn ≡ On) × (full ≡ true)) ⊎ ((turn ≡ End end) × (full ≡ false))

-- wherever an intake stood, it stands with what is held then, and all of that is committed, unless it stopped; what was
-- committed still is
abbrev pub CommitsAll : {S K : Type 0} → (S → List Entry) → (K → Kept → Type 0) → Intake S K → Intake S K → Bool → Turn
    → Type 0
CommitsAll entries stands old new full turn =
    (k : Kept) (first : List Entry) (before : List AcceptedEvent) → StandsBy entries stands old k first before
    → (j : Kept) × StandsBy entries stands new j first before × StaysCommitted k j
    × UnlessStopped turn full (IsCommitted entries new j)

-- wherever it stood, it stands with what is held then, of which this is so; what was committed still is
abbrev pub StandsOn : {S K : Type 0} → (S → List Entry) → (K → Kept → Type 0) → Intake S K → Intake S K
    → (Kept → Type 0) → Type 0
StandsOn entries stands old new P =
    (k : Kept) (first : List Entry) (before : List AcceptedEvent) → StandsBy entries stands old k first before
    → (j : Kept) × StandsBy entries stands new j first before × StaysCommitted k j × P j

-- wherever an intake stood, it stands behind what is accepted of a step, and what is refused of that was kept; after some
-- steps all is committed, and after any other what is held and committed is as before; what was committed still is
abbrev pub ServesStep : {S K : Type 0} → (S → List Entry) → (K → Kept → Type 0) → Intake S K → Intake S K → ServerStep
    → List ℕ → Bool → Bool → Turn → OutputState × ServeCounts → OutputState × ServeCounts → Type 0
ServesStep entries stands old new step octets lost full turn was now =
    (k : Kept) (first : List Entry) (before : List AcceptedEvent) → StandsBy entries stands old k first before
    → NoneWaits old.collector → (j : Kept) × (here : List AcceptedEvent)
    × StandsBy entries stands new j first (before ++ here) × StaysCommitted k j
    × ServesEvent (manner_of old.collector) before step (event_of step octets) here lost turn was now
    × IfSettled turn (NoneWaits new.collector) × (asks_commit step ≡ true → UnlessStopped turn full (IsCommitted entries new j))
    × (asks_commit step ≡ false → j ≡ k)

-- these are the first entries and the received set
abbrev pub HoldsReceived : FrameReading → List Entry → List Entry → List AcceptedEvent → Type 0
HoldsReceived way held first events = (x : Entry) → Has held x ↔ (Has first x ⊎ IsReceived way events x)
