-- Why a run stopped.
use Rattle.std.specs.Prelude.{◌≡◌, ◌⊎◌, ℕ, ◌+◌, ◌<◌, ◌≤◌, List, [], ◌∷◌, length, take, drop, None, Err, IsSomeAnd}
use Rattle.syslog_frame.specs.declared.limits.TheConstants.{POSITION_MAX}
use Rattle.syslog_legacy.specs.declared.frame_reading.FrameReading.{FrameReading}
use Rattle.syslog_collect.specs.declared.event.Event.{Event}
use Rattle.syslog_collect.specs.declared.event.Event.TheVariants.{Opened as event_Opened, Piece as event_Piece}
use Rattle.syslog_collect.specs.declared.event.Event.TheVariants.{Ended as event_Ended, Datagram as event_Datagram}
use Rattle.syslog_collect.specs.declared.event.EventEnd.{EventEnd}
use Rattle.syslog_collect.specs.declared.event.EventEnd.TheVariants.{Done as end_Done, Stopped as end_Stopped}
use Rattle.syslog_collect.specs.declared.event.RunEnd.{RunEnd}
use Rattle.syslog_collect.specs.declared.event.RunEnd.TheVariants.{Done, Stopped}
use Rattle.syslog_collect.specs.declared.fault.CollectFault.{CollectFault}
use Rattle.syslog_collect.specs.declared.fault.CollectFault.TheVariants.{AlreadyOpen, TooManyOpen, NotOpen, ConnFailed}
use Rattle.syslog_collect.specs.declared.fault.CollectFault.TheVariants.{StreamTooLong, Unreleased, Unterminated}
use Rattle.syslog_collect.specs.declared.fault.CollectFault.TheVariants.{Memory}
use Rattle.syslog_collect.specs.declared.piece.Step.{Step}
use Rattle.syslog_collect.specs.declared.piece.Step.TheVariants.{Stopped as step_Stopped, Ended as step_Ended, On}
use Rattle.syslog_collect.specs.Answers.{EndsFrameOf, EndsWhole, IfMemory, IfUnreleased, IsCause, IsEnding, IsOpening}
use Rattle.syslog_collect.specs.Answers.{IsWholeWith}
use Rattle.syslog_collect.specs.History.{History, HoldsBadCount, Stream, accept, history_after, stream_of, with_octets}
use Rattle.syslog_collect.specs.Outcomes.{IsRecordFrame}
use Rattle.syslog_collect.specs.Runs.{accepted_all, accepted_event}

-- why a piece is refused at an opening, so many of its octets being taken, where so many frames wait then: memory is
-- refused for the record of the frame that they complete, which waits, and n of them are of that frame; any other cause
-- is there before the first octet, and a stream is too long only where no frame waits
abbrev pub IsPieceCause : FrameReading → List ℕ → ℕ → ℕ → CollectFault → Stream → Type 0
IsPieceCause way piece taken waits (Memory n) s =
    IsCause way piece (Err (Memory taken)) s × EndsFrameOf (take taken piece) n s × (waits ≡ 1)
IsPieceCause way piece taken waits ConnFailed s = IsCause way piece (Err ConnFailed) s × (taken ≡ 0)
IsPieceCause way piece taken waits StreamTooLong s =
    IsCause way piece (Err StreamTooLong) s × (taken ≡ 0) × (waits ≡ 0)
IsPieceCause way piece taken waits NotOpen s = ⊥
IsPieceCause way piece taken waits AlreadyOpen s = ⊥
IsPieceCause way piece taken waits TooManyOpen s = ⊥
IsPieceCause way piece taken waits Unreleased s = ⊥
IsPieceCause way piece taken waits (Unterminated start) s = ⊥

-- why a piece of a number is refused after a history: the number is not open; or a cause at its opening
abbrev pub IsPieceRefusal : FrameReading → ℕ → List ℕ → ℕ → ℕ → CollectFault → History → Type 0
IsPieceRefusal way c piece taken waits NotOpen h = (stream_of c h.streams ≡ None) × (taken ≡ 0)
IsPieceRefusal way c piece taken waits (Memory n) h =
    IsSomeAnd (stream_of c h.streams) (IsPieceCause way piece taken waits (Memory n))
IsPieceRefusal way c piece taken waits ConnFailed h =
    IsSomeAnd (stream_of c h.streams) (IsPieceCause way piece taken waits ConnFailed)
IsPieceRefusal way c piece taken waits StreamTooLong h =
    IsSomeAnd (stream_of c h.streams) (IsPieceCause way piece taken waits StreamTooLong)
IsPieceRefusal way c piece taken waits AlreadyOpen h = ⊥
IsPieceRefusal way c piece taken waits TooManyOpen h = ⊥
IsPieceRefusal way c piece taken waits Unreleased h = ⊥
IsPieceRefusal way c piece taken waits (Unterminated start) h = ⊥

-- why the call for an event is refused after a history, where so many connections may be open, so many octets of a piece
-- being taken; w tells how many frames of each number wait then
abbrev pub IsRefusal : ℕ → FrameReading → History → (ℕ → ℕ) → Event → ℕ → CollectFault → Type 0
IsRefusal limit way h w (event_Opened c k) taken fault = IsOpening {U = Unit {0}} limit c (Err fault) h
IsRefusal limit way h w (event_Piece c o) taken fault = IsPieceRefusal way c o.now taken (w c) fault h
IsRefusal limit way h w (event_Ended c) taken fault =
    IsEnding {U = Unit {0}} c (Err fault) h × IfUnreleased {U = Unit {0}} (Err fault) (w c ≡ 1)
IsRefusal limit way h w (event_Datagram o) taken fault = (fault ≡ Memory 0) × IsRecordFrame way o.now

-- the octets of a piece; other events have none
abbrev pub octets_of : Event → List ℕ
octets_of (event_Opened c k) = []
octets_of (event_Piece c o) = o.now
octets_of (event_Ended c) = []
octets_of (event_Datagram o) = []

-- so many octets of a number's piece were taken, where so many frames wait then: none; or they end a frame, and none
-- waits
abbrev pub IsBetweenAt : ℕ → List ℕ → ℕ → ℕ → History → Type 0
IsBetweenAt c piece taken waits h =
    (taken ≡ 0) ⊎ ((waits ≡ 0) × IsSomeAnd (stream_of c h.streams) (IsWholeWith (take taken piece)))

-- of an event
abbrev pub IsBetweenFrames : History → (ℕ → ℕ) → Event → ℕ → Type 0
IsBetweenFrames h w (event_Opened c k) taken = taken ≡ 0
IsBetweenFrames h w (event_Piece c o) taken = IsBetweenAt c o.now taken (w c) h
IsBetweenFrames h w (event_Ended c) taken = taken ≡ 0
IsBetweenFrames h w (event_Datagram o) taken = taken ≡ 0

-- an event is refused after a history, so many octets of a piece being taken: there is no room for an outcome in the
-- log, or for octets of a frame, and that is between frames; or the event's call is refused
abbrev pub StopsAt : ℕ → FrameReading → History → (ℕ → ℕ) → Event → ℕ → CollectFault → Type 0
StopsAt limit way h w e taken fault = (taken ≤ length (octets_of e))
    × (((fault ≡ Memory 0) × IsBetweenFrames h w e taken) ⊎ IsRefusal limit way h w e taken fault)

-- the first of the events is
abbrev pub StopsAtFirst : ℕ → FrameReading → History → (ℕ → ℕ) → List Event → ℕ → CollectFault → Type 0
StopsAtFirst limit way h w [] taken fault = ⊥
StopsAtFirst limit way h w (e ∷ es) taken fault = StopsAt limit way h w e taken fault

-- why a run after a history stopped: one of its events is refused after those before it
abbrev pub StopsAs : ℕ → FrameReading → History → (ℕ → ℕ) → List Event → RunEnd → Type 0
StopsAs limit way h w es Done = Unit {0}
StopsAs limit way h w es (Stopped at taken fault) =
    (at < length es) × StopsAtFirst limit way (history_after h (accepted_all (take at es))) w (drop at es) taken fault

-- an event that ends an opening ends it at whole frames, or behind a bad count
abbrev pub EndsWell : History → Event → Type 0
EndsWell h (event_Opened c k) = Unit {0}
EndsWell h (event_Piece c o) = Unit {0}
EndsWell h (event_Ended c) = IsSomeAnd (stream_of c h.streams) EndsWhole
EndsWell h (event_Datagram o) = Unit {0}

-- each of the events does, after those before it
abbrev pub EndWell : History → List Event → Type 0
EndWell h [] = Unit {0}
EndWell h (e ∷ es) = EndsWell h e × EndWell (accept h (accepted_event e)) es

-- the events that a run accepted whole
abbrev pub done_events : List Event → RunEnd → List Event
done_events es Done = es
done_events es (Stopped at taken fault) = take at es

-- ---- within a run

-- where a step was refused
abbrev pub OnStopped : Step → (ℕ → CollectFault → Type 0) → Type 0
OnStopped (step_Stopped used fault) P = P used fault
OnStopped step_Ended P = Unit {0}
OnStopped (On used) P = Unit {0}

-- where an event was refused
abbrev pub IfStopped : EventEnd → (ℕ → CollectFault → Type 0) → Type 0
IfStopped end_Done P = Unit {0}
IfStopped (end_Stopped taken fault) P = P taken fault

-- so many octets of an opening's piece were taken, where so many frames wait then: none; or they end a frame, and none
-- waits
abbrev pub IsBetween : List ℕ → ℕ → ℕ → Stream → Type 0
IsBetween piece taken waits s = (taken ≡ 0) ⊎ ((waits ≡ 0) × IsWholeWith (take taken piece) s)

-- a piece of an opening is refused: there is no room in the log, or for a frame, between frames; or there is a cause
abbrev pub StopsPiece : FrameReading → List ℕ → ℕ → ℕ → CollectFault → Stream → Type 0
StopsPiece way piece taken waits fault s =
    ((fault ≡ Memory 0) × IsBetween piece taken waits s) ⊎ IsPieceCause way piece taken waits fault s

-- a step of a piece is refused where so many frames waited: there is no room, and nothing was taken; or there is a
-- cause, and where it is want of memory, a frame waited or an octet was taken
abbrev pub StopsStep : FrameReading → List ℕ → ℕ → ℕ → ℕ → CollectFault → Stream → Type 0
StopsStep way rest used waited waits fault s = ((fault ≡ Memory 0) × (used ≡ 0) × (waits ≡ waited))
    ⊎ (IsPieceCause way rest used waits fault s × IfMemory {A = Unit {0}} (Err fault) (0 < waited + used))

-- a piece of a number is refused after a history: there is no room, between frames; or there is a cause
abbrev pub StopsPieceAt : FrameReading → ℕ → List ℕ → ℕ → ℕ → CollectFault → History → Type 0
StopsPieceAt way c piece taken waits fault h =
    ((fault ≡ Memory 0) × IsBetweenAt c piece taken waits h) ⊎ IsPieceRefusal way c piece taken waits fault h

-- where octets of a piece were taken, they hold no bad count, and the piece is not too long for its opening
abbrev pub MayGoOn : List ℕ → ℕ → Stream → Type 0
MayGoOn piece taken s =
    (taken ≡ 0) ⊎ (¬ (HoldsBadCount (with_octets s (take taken piece)))
    × (length s.octets + length piece ≤ POSITION_MAX))
