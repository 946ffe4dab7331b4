-- What a collector makes of one event.
use Rattle.std.specs.Prelude.{◌≡◌, ◌⊎◌, ℕ, ◌+◌, ◌<◌, ◌≤◌, List, [], ◌∷◌, length, take}
use Rattle.std.specs.Prelude.{Option, None, IsSome, IsSomeAnd}
use Rattle.archive_text.specs.Entries.{Entry}
use Rattle.syslog_frame.specs.declared.limits.TheConstants.{POSITION_MAX}
use Rattle.syslog_legacy.specs.declared.frame_reading.FrameReading.{FrameReading}
use Rattle.syslog_collect.specs.Answers.{EndsWhole, IsUnfinished}
use Rattle.syslog_collect.specs.History.{AcceptedEvent, Opened, Piece, Ended, Datagram, History, HoldsBadCount, Stream}
use Rattle.syslog_collect.specs.History.{stream_of}
use Rattle.syslog_collect.specs.Logs.{LogsEvent, LogsPart, waiting_after}
use Rattle.syslog_collect.specs.Observers.{HearsPiece}
use Rattle.syslog_collect.specs.Runs.{nonempty_piece}
use Rattle.syslog_collect.specs.declared.fault.CollectFault.{CollectFault}
use Rattle.syslog_collect.specs.declared.fault.CollectFault.TheVariants.{AlreadyOpen, TooManyOpen, NotOpen, ConnFailed}
use Rattle.syslog_collect.specs.declared.fault.CollectFault.TheVariants.{StreamTooLong, Unreleased, Unterminated}
use Rattle.syslog_collect.specs.declared.fault.CollectFault.TheVariants.{Memory}
use Rattle.syslog_collect.specs.declared.limits.TheConstants.{CONNECTIONS_MAX}
use Rattle.syslog_collect.specs.declared.outcome.Outcome.{Outcome}
use Rattle.collect_engine.specs.declared.receiving.Received.{Received}
use Rattle.collect_engine.specs.declared.receiving.Received.TheVariants as received

-- what is made of a refusal
abbrev pub received_as : CollectFault → Received
received_as ConnFailed = received.Accepted
received_as (Memory n) = received.Memory
received_as (Unterminated start) = received.Unterminated start
received_as AlreadyOpen = received.Refused
received_as TooManyOpen = received.Refused
received_as NotOpen = received.Refused
received_as StreamTooLong = received.Refused
received_as Unreleased = received.Refused

-- the outcomes that are kept of a refusal: those of what was taken before memory ran out
abbrev pub kept_outcomes : CollectFault → List Outcome → List Outcome
kept_outcomes (Memory n) os = os
kept_outcomes ConnFailed os = []
kept_outcomes (Unterminated start) os = []
kept_outcomes AlreadyOpen os = []
kept_outcomes TooManyOpen os = []
kept_outcomes NotOpen os = []
kept_outcomes StreamTooLong os = []
kept_outcomes Unreleased os = []

-- the outcomes of an event that was accepted, over some entries
abbrev pub Logged : FrameReading → History → (ℕ → ℕ) → AcceptedEvent → List Outcome → Type 0
Logged way h w e os = (old : List Entry) × (new : List Entry) × LogsEvent way h w e old new os

-- an end comes at whole frames, or behind a bad count
abbrev pub IsWholeEnd : History → AcceptedEvent → Type 0
IsWholeEnd h (Opened c k) = Unit {0}
IsWholeEnd h (Piece c o) = Unit {0}
IsWholeEnd h (Ended c) = IsSomeAnd (stream_of c h.streams) EndsWhole
IsWholeEnd h (Datagram o) = Unit {0}

-- the event is a piece behind a bad count
abbrev pub IsBehindBadCount : History → AcceptedEvent → Type 0
IsBehindBadCount h (Opened c k) = ⊥
IsBehindBadCount h (Piece c o) = IsSomeAnd (stream_of c h.streams) HoldsBadCount
IsBehindBadCount h (Ended c) = ⊥
IsBehindBadCount h (Datagram o) = ⊥

-- the event is an end inside the frame that begins at this position
abbrev pub IsEndInside : ℕ → History → AcceptedEvent → Type 0
IsEndInside start h (Opened c k) = ⊥
IsEndInside start h (Piece c o) = ⊥
IsEndInside start h (Ended c) = IsSomeAnd (stream_of c h.streams) (λ s. ¬ (HoldsBadCount s) × IsUnfinished start s)
IsEndInside start h (Datagram o) = ⊥

-- the event may not come, where so many frames of each number wait
abbrev pub MayNotCome : History → (ℕ → ℕ) → AcceptedEvent → Type 0
MayNotCome h w (Opened c k) = IsSome (stream_of c h.streams) ⊎ (CONNECTIONS_MAX ≤ length h.streams)
MayNotCome h w (Piece c o) = (stream_of c h.streams ≡ None)
    ⊎ IsSomeAnd (stream_of c h.streams) (λ s. ¬ (HoldsBadCount s) × (POSITION_MAX < length s.octets + length o))
MayNotCome h w (Ended c) = (stream_of c h.streams ≡ None) ⊎ (w c ≡ 1)
MayNotCome h w (Datagram o) = ⊥

-- what was taken of an event before memory ran out, and its outcomes: nothing, so that as many frames wait as before; or
-- the first octets of a piece, and the outcomes of the frames that they complete, but for one that waits
abbrev pub TakesPartOf : FrameReading → History → (ℕ → ℕ) → (ℕ → ℕ) → AcceptedEvent → List Outcome → List AcceptedEvent
    → Type 0
TakesPartOf way h w v (Opened c k) os es = (es ≡ []) × (os ≡ []) × ((d : ℕ) → v d ≡ w d)
TakesPartOf way h w v (Piece c o) os es = (n : ℕ) × (old : List Entry) × (new : List Entry)
    × (es ≡ nonempty_piece c (take n o)) × LogsPart way h w v c (take n o) old new os
TakesPartOf way h w v (Ended c) os es = (es ≡ []) × (os ≡ []) × ((d : ℕ) → v d ≡ w d)
TakesPartOf way h w v (Datagram o) os es = (es ≡ []) × (os ≡ []) × ((d : ℕ) → v d ≡ w d)

-- an event after a history is accepted as these events, and has these outcomes: w tells how many frames of each number
-- waited, and v how many wait then
abbrev pub ReceivesAs : FrameReading → History → (ℕ → ℕ) → (ℕ → ℕ) → AcceptedEvent → Received → List Outcome
    → List AcceptedEvent → Type 0
ReceivesAs way h w v e received.Accepted os es =
    ((es ≡ e ∷ []) × Logged way h w e os × ((d : ℕ) → v d ≡ waiting_after w e d) × IsWholeEnd h e)
    ⊎ ((es ≡ []) × (os ≡ []) × ((d : ℕ) → v d ≡ w d) × IsBehindBadCount h e)
ReceivesAs way h w v e (received.Unterminated start) os es =
    (es ≡ e ∷ []) × (os ≡ []) × ((d : ℕ) → v d ≡ w d) × IsEndInside start h e
ReceivesAs way h w v e received.Refused os es = (es ≡ []) × (os ≡ []) × MayNotCome h v e
ReceivesAs way h w v e received.Memory os es = TakesPartOf way h w v e os es

-- an opening may not come, where so many connections may be open; of other events nothing is said
abbrev pub MayNotOpen : ℕ → History → AcceptedEvent → Type 0
MayNotOpen limit h (Opened c k) = IsSome (stream_of c h.streams) ⊎ (limit ≤ length h.streams)
MayNotOpen limit h (Piece c o) = Unit {0}
MayNotOpen limit h (Ended c) = Unit {0}
MayNotOpen limit h (Datagram o) = Unit {0}

-- where an event is refused
abbrev pub IfRefused : Received → Type 0 → Type 0
IfRefused received.Accepted P = Unit {0}
IfRefused (received.Unterminated start) P = Unit {0}
IfRefused received.Refused P = P
IfRefused received.Memory P = Unit {0}

-- where memory did not run out
abbrev pub IfNotMemory : Received → Type 0 → Type 0
IfNotMemory received.Accepted P = P
IfNotMemory (received.Unterminated start) P = P
IfNotMemory received.Refused P = P
IfNotMemory received.Memory P = Unit {0}

-- An observer was told of the frames of what was taken of a piece, and of their outcomes. These are the outcomes that are
-- kept, unless none is.
abbrev pub HearsReceived : {O : Type 0} → (O → Outcome → Option (List ℕ) → O → Type 0) → Option Stream → List ℕ → ℕ → ℕ
    → List Outcome → O → O → Type 0
HearsReceived t stream octets waited waits kept x y = (n : ℕ) × (outcomes : List Outcome)
    × HearsPiece t stream (take n octets) waited waits [] outcomes x y × ((kept ≡ outcomes) ⊎ (kept ≡ []))
