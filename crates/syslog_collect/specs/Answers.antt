-- What the collector's calls accept, by their answers.
use Rattle.std.specs.Prelude.{◌≡◌, ◌⊎◌, ℕ, ◌+◌, ◌<◌, ◌≤◌, false, List, [], ◌∷◌, ◌++◌, length, min, take}
use Rattle.std.specs.Prelude.{Option, Some, None, Result, Ok, Err, IsSome, IsSomeAnd}
use Rattle.syslog_frame.specs.Frames.{Frames, IsBadAt, framed}
use Rattle.syslog_frame.specs.Scan.{IsReading}
use Rattle.syslog_frame.specs.declared.framing.Framing.{Framing}
use Rattle.syslog_frame.specs.declared.limits.TheConstants.{POSITION_MAX}
use Rattle.archive_text.specs.Entries.{Entry}
use Rattle.syslog_legacy.specs.declared.frame_reading.FrameReading.{FrameReading}
use Rattle.syslog_collect.specs.declared.connection.Connection.{Connection}
use Rattle.syslog_collect.specs.declared.fault.Advance.{Advance}
use Rattle.syslog_collect.specs.declared.fault.CollectFault.{CollectFault}
use Rattle.syslog_collect.specs.declared.fault.CollectFault.TheVariants.{AlreadyOpen, TooManyOpen, NotOpen, ConnFailed}
use Rattle.syslog_collect.specs.declared.fault.CollectFault.TheVariants.{StreamTooLong, Unreleased, Unterminated}
use Rattle.syslog_collect.specs.declared.fault.CollectFault.TheVariants.{Memory}
use Rattle.syslog_collect.specs.declared.outcome.Outcome.{Outcome}
use Rattle.syslog_collect.specs.declared.outcome.Outcome.TheVariants.{New, Held, Refused, RefusedLegacy, TooLong}
use Rattle.syslog_collect.specs.declared.outcome.Outcome.TheVariants.{BadCount}
use Rattle.syslog_collect.specs.History.{History, HoldsBadCount, MayContinue, Stream, AcceptedEvent, Opened, Piece}
use Rattle.syslog_collect.specs.History.{Ended, Datagram, with_octets, stream_of}
use Rattle.syslog_collect.specs.Outcomes.{AreReported, IsRecordFrame, outcomes_of}
use Rattle.syslog_collect.specs.Standing.{IsAt}

-- how many octets were accepted where n were used: with a bad count, so many
abbrev pub accepted_count : ℕ → ℕ → Option Outcome → ℕ
accepted_count bad n None = n
accepted_count bad n (Some New) = n
accepted_count bad n (Some Held) = n
accepted_count bad n (Some (Refused fault)) = n
accepted_count bad n (Some (RefusedLegacy offset)) = n
accepted_count bad n (Some TooLong) = n
accepted_count bad n (Some (BadCount at)) = bad

-- a bad count was met
abbrev pub IsBadCount : Option Outcome → Type 0
IsBadCount None = ⊥
IsBadCount (Some New) = ⊥
IsBadCount (Some Held) = ⊥
IsBadCount (Some (Refused fault)) = ⊥
IsBadCount (Some (RefusedLegacy offset)) = ⊥
IsBadCount (Some TooLong) = ⊥
IsBadCount (Some (BadCount at)) = Unit {0}

-- the octets of a piece that an advance accepted where it answered Ok
abbrev pub used_octets : List ℕ → Advance → List ℕ
used_octets piece a = take (accepted_count (a.used + 1) a.used a.outcome) piece

-- the octets of a piece that an advance accepted, if it accepted any piece: those used, and the bad one
abbrev pub accepted_octets : List ℕ → Result Advance CollectFault → Option (List ℕ)
accepted_octets piece (Ok a) = Some (take (accepted_count (a.used + 1) a.used a.outcome) piece)
accepted_octets piece (Err (Memory n)) = Some (take n piece)
accepted_octets piece (Err AlreadyOpen) = None
accepted_octets piece (Err TooManyOpen) = None
accepted_octets piece (Err NotOpen) = None
accepted_octets piece (Err ConnFailed) = None
accepted_octets piece (Err StreamTooLong) = None
accepted_octets piece (Err Unreleased) = None
accepted_octets piece (Err (Unterminated start)) = None

-- with those that follow a bad octet, which change nothing
abbrev pub dropped_octets : List ℕ → Result Advance CollectFault → Option (List ℕ)
dropped_octets piece (Ok a) = Some (take (accepted_count (length piece) a.used a.outcome) piece)
dropped_octets piece (Err (Memory n)) = Some (take n piece)
dropped_octets piece (Err AlreadyOpen) = None
dropped_octets piece (Err TooManyOpen) = None
dropped_octets piece (Err NotOpen) = None
dropped_octets piece (Err ConnFailed) = None
dropped_octets piece (Err StreamTooLong) = None
dropped_octets piece (Err Unreleased) = None
dropped_octets piece (Err (Unterminated start)) = None

-- the outcomes that an advance answered
abbrev pub answered : Result Advance CollectFault → List Outcome
answered (Ok a) = outcomes_of a.outcome
answered (Err fault) = []

-- the events that a piece of a number adds
abbrev pub accepted_piece : ℕ → Option (List ℕ) → List AcceptedEvent
accepted_piece c None = []
accepted_piece c (Some octets) = Piece c octets ∷ []

-- the octets of an opening are bad at this offset
abbrev pub HoldsBadCountAt : Stream → ℕ → Type 0
HoldsBadCountAt s at = (frames : List (List ℕ)) × (rest : List ℕ) × IsBadAt s.framing s.octets frames rest at

-- a bad count is the last of the outcomes exactly where the octets of the opening are bad, at their offset
abbrev pub ReportsBadCount : List Outcome → Stream → Type 0
ReportsBadCount [] s = ¬ (HoldsBadCount s)
ReportsBadCount (BadCount at ∷ os) s = HoldsBadCountAt s at × (os ≡ [])
ReportsBadCount (New ∷ os) s = ReportsBadCount os s
ReportsBadCount (Held ∷ os) s = ReportsBadCount os s
ReportsBadCount (Refused fault ∷ os) s = ReportsBadCount os s
ReportsBadCount (RefusedLegacy offset ∷ os) s = ReportsBadCount os s
ReportsBadCount (TooLong ∷ os) s = ReportsBadCount os s

-- what a connection at an opening does with octets: it is at the opening with them, these frames more
-- were handled, and these outcomes report them
pub record Advances (way : FrameReading) (old new : Connection) (kept_old kept_new : List Entry) (octets : List ℕ)
    (outcomes : List Outcome) (s : Stream) (handled : List (List ℕ)) : Type 0 where
  pub may : MayContinue octets s
  pub fresh : List (List ℕ)
  pub now_at : IsAt new (with_octets s octets) (handled ++ fresh)
  pub reported : AreReported way kept_old kept_new fresh outcomes
  pub marks : ReportsBadCount outcomes (with_octets s octets)

-- by what was accepted: where nothing was, nothing changes
abbrev pub AdvancesBy : FrameReading → Option (List ℕ) → Connection → Connection → List Entry → List Entry
    → List Outcome
    → Stream → List (List ℕ) → Type 0
AdvancesBy way None old new kept_old kept_new outcomes s handled =
    (new ≡ old) × (kept_new ≡ kept_old) × (outcomes ≡ [])
AdvancesBy way (Some octets) old new kept_old kept_new outcomes s handled =
    Advances way old new kept_old kept_new octets outcomes s handled

-- with these octets the opening is whole frames, and the last of them spells a record
abbrev pub EndsInRecord : FrameReading → Stream → List ℕ → Type 0
EndsInRecord way s octets = (frames : List (List ℕ)) × (f : List ℕ)
    × Frames s.framing (s.octets ++ octets) (frames ++ f ∷ []) [] × IsRecordFrame way f

-- why an advance of a connection at an opening is refused, the first cause that holds
abbrev pub IsCause : FrameReading → List ℕ → Result Advance CollectFault → Stream → Type 0
IsCause way piece (Ok a) s = ¬ (HoldsBadCount s)
IsCause way piece (Err (Memory n)) s = ¬ (HoldsBadCount s) × EndsInRecord way s (take n piece)
IsCause way piece (Err ConnFailed) s = HoldsBadCount s
IsCause way piece (Err StreamTooLong) s = ¬ (HoldsBadCount s) × (POSITION_MAX < length s.octets + length piece)
IsCause way piece (Err NotOpen) s = ⊥
IsCause way piece (Err AlreadyOpen) s = ⊥
IsCause way piece (Err TooManyOpen) s = ⊥
IsCause way piece (Err Unreleased) s = ⊥
IsCause way piece (Err (Unterminated start)) s = ⊥

-- n octets of a piece come in their turn at an opening where so many frames wait: none, where one waits; else the piece
-- is
-- not too long for the opening
abbrev pub ComesInTurn : List ℕ → ℕ → ℕ → Stream → Type 0
ComesInTurn piece waits n s = ((waits ≡ 1) × (n ≡ 0)) ⊎ ((waits ≡ 0) × (length s.octets + length piece ≤ POSITION_MAX))

-- with octets more an opening is whole frames
abbrev pub IsWholeWith : List ℕ → Stream → Type 0
IsWholeWith o s = (frames : List (List ℕ)) × Frames s.framing (s.octets ++ o) frames []

-- with octets more, all of them of one frame, an opening is whole frames
abbrev pub EndsFrameWith : List ℕ → Stream → Type 0
EndsFrameWith o s = (frames : List (List ℕ)) × (f : List ℕ)
    × Frames s.framing (s.octets ++ o) (frames ++ f ∷ []) [] × (length o ≤ length (framed s.framing f))

-- where n octets of a piece stop at an opening, by what became of them: at the end of a frame; before a bad octet,
-- which is
-- at this offset; else at the end of the piece
abbrev pub StopsRight : List ℕ → ℕ → Option Outcome → Stream → Type 0
StopsRight piece n None s = n ≡ length piece
StopsRight piece n (Some New) s = IsWholeWith (take n piece) s
StopsRight piece n (Some Held) s = IsWholeWith (take n piece) s
StopsRight piece n (Some (Refused fault)) s = IsWholeWith (take n piece) s
StopsRight piece n (Some (RefusedLegacy offset)) s = IsWholeWith (take n piece) s
StopsRight piece n (Some TooLong) s = IsWholeWith (take n piece) s
StopsRight piece n (Some (BadCount at)) s = at ≡ length s.octets + n

-- with octets more an opening is whole frames, and n of the octets are of the last one: all, where it began before them
abbrev pub EndsFrameOf : List ℕ → ℕ → Stream → Type 0
EndsFrameOf o n s = (frames : List (List ℕ)) × (f : List ℕ)
    × Frames s.framing (s.octets ++ o) (frames ++ f ∷ []) [] × (n ≡ min (length o) (length (framed s.framing f)))

-- room for octets of a frame was refused to a connection that had reserved none: nothing was taken, and nothing has
-- changed
pub record WantsRoom (old new : Connection) (result : Result Advance CollectFault) : Type 0 where
  pub fault_is : result ≡ Err (Memory 0)
  pub same : new ≡ old
  pub reading : IsReading old.scanner
  pub grows : old.scanner.reserved ≡ false

-- how much of a piece an advance takes at an opening where so many frames wait; where memory is refused, a frame waited
-- or an octet was taken
abbrev pub IsTaken : List ℕ → ℕ → Result Advance CollectFault → Stream → Type 0
IsTaken piece waits (Ok a) s = ComesInTurn piece waits a.used s × StopsRight piece a.used a.outcome s
IsTaken piece waits (Err (Memory n)) s =
    ComesInTurn piece waits n s × EndsFrameWith (take n piece) s × (0 < waits + n)
IsTaken piece waits (Err StreamTooLong) s = waits ≡ 0
IsTaken piece waits (Err ConnFailed) s = Unit {0}
IsTaken piece waits (Err NotOpen) s = Unit {0}
IsTaken piece waits (Err AlreadyOpen) s = Unit {0}
IsTaken piece waits (Err TooManyOpen) s = Unit {0}
IsTaken piece waits (Err Unreleased) s = Unit {0}
IsTaken piece waits (Err (Unterminated start)) s = Unit {0}

-- no more is used than there is; and no refusal of another call is answered
abbrev pub IsUsedWithin : List ℕ → Result Advance CollectFault → Type 0
IsUsedWithin piece (Ok a) = a.used ≤ length piece
IsUsedWithin piece (Err (Memory n)) = n ≤ length piece
IsUsedWithin piece (Err NotOpen) = Unit {0}
IsUsedWithin piece (Err ConnFailed) = Unit {0}
IsUsedWithin piece (Err StreamTooLong) = Unit {0}
IsUsedWithin piece (Err AlreadyOpen) = ⊥
IsUsedWithin piece (Err TooManyOpen) = ⊥
IsUsedWithin piece (Err Unreleased) = ⊥
IsUsedWithin piece (Err (Unterminated start)) = ⊥

-- what an advance of a number answers after a history: the number is not open; or a cause at its opening
abbrev pub IsAnswerAt : FrameReading → ℕ → List ℕ → Result Advance CollectFault → History → Type 0
IsAnswerAt way c piece (Err NotOpen) h = stream_of c h.streams ≡ None
IsAnswerAt way c piece (Ok a) h = IsSomeAnd (stream_of c h.streams) (IsCause way piece (Ok a))
IsAnswerAt way c piece (Err (Memory n)) h = IsSomeAnd (stream_of c h.streams) (IsCause way piece (Err (Memory n)))
IsAnswerAt way c piece (Err ConnFailed) h = IsSomeAnd (stream_of c h.streams) (IsCause way piece (Err ConnFailed))
IsAnswerAt way c piece (Err StreamTooLong) h =
    IsSomeAnd (stream_of c h.streams) (IsCause way piece (Err StreamTooLong))
IsAnswerAt way c piece (Err AlreadyOpen) h = ⊥
IsAnswerAt way c piece (Err TooManyOpen) h = ⊥
IsAnswerAt way c piece (Err Unreleased) h = ⊥
IsAnswerAt way c piece (Err (Unterminated start)) h = ⊥

-- the event that an opening adds
abbrev pub accepted_opening : {U : Type 0} → ℕ → Framing → Result U CollectFault → List AcceptedEvent
accepted_opening c k (Ok u) = Opened c k ∷ []
accepted_opening c k (Err fault) = []

-- the event that an end adds: also where the last frame is unfinished
abbrev pub accepted_ending : {U : Type 0} → ℕ → Result U CollectFault → List AcceptedEvent
accepted_ending c (Ok u) = Ended c ∷ []
accepted_ending c (Err (Unterminated start)) = Ended c ∷ []
accepted_ending c (Err NotOpen) = []
accepted_ending c (Err AlreadyOpen) = []
accepted_ending c (Err TooManyOpen) = []
accepted_ending c (Err ConnFailed) = []
accepted_ending c (Err StreamTooLong) = []
accepted_ending c (Err Unreleased) = []
accepted_ending c (Err (Memory n)) = []

-- the event that a datagram adds
abbrev pub accepted_datagram : {E : Type 0} → List ℕ → Result Outcome E → List AcceptedEvent
accepted_datagram octets (Ok o) = Datagram octets ∷ []
accepted_datagram octets (Err fault) = []

-- what the opening of a number answers after a history, the first cause that holds, where so many may be open
abbrev pub IsOpening : {U : Type 0} → ℕ → ℕ → Result U CollectFault → History → Type 0
IsOpening limit c (Ok u) h = (stream_of c h.streams ≡ None) × (length h.streams < limit)
IsOpening limit c (Err AlreadyOpen) h = IsSome (stream_of c h.streams)
IsOpening limit c (Err TooManyOpen) h = (stream_of c h.streams ≡ None) × (limit ≤ length h.streams)
IsOpening limit c (Err (Memory n)) h = (stream_of c h.streams ≡ None) × (length h.streams < limit) × (n ≡ 0)
IsOpening limit c (Err NotOpen) h = ⊥
IsOpening limit c (Err ConnFailed) h = ⊥
IsOpening limit c (Err StreamTooLong) h = ⊥
IsOpening limit c (Err Unreleased) h = ⊥
IsOpening limit c (Err (Unterminated start)) h = ⊥

-- the last frame of an opening begins at this position, and is unfinished
abbrev pub IsUnfinished : ℕ → Stream → Type 0
IsUnfinished start s = (frames : List (List ℕ)) × (rest : List ℕ) × Frames s.framing s.octets frames rest
    × (0 < length rest) × (start + length rest ≡ length s.octets)

-- the octets of an opening are whole frames, or hold a bad count
abbrev pub EndsWhole : Stream → Type 0
EndsWhole s = HoldsBadCount s ⊎ ((frames : List (List ℕ)) × Frames s.framing s.octets frames [])

-- what the end of a number answers after a history
abbrev pub IsEnding : {U : Type 0} → ℕ → Result U CollectFault → History → Type 0
IsEnding c (Ok u) h = IsSomeAnd (stream_of c h.streams) EndsWhole
IsEnding c (Err NotOpen) h = stream_of c h.streams ≡ None
IsEnding c (Err Unreleased) h = IsSome (stream_of c h.streams)
IsEnding c (Err (Unterminated start)) h = IsSomeAnd (stream_of c h.streams)
    (λ s. ¬ (HoldsBadCount s) × IsUnfinished start s)
IsEnding c (Err AlreadyOpen) h = ⊥
IsEnding c (Err TooManyOpen) h = ⊥
IsEnding c (Err ConnFailed) h = ⊥
IsEnding c (Err StreamTooLong) h = ⊥
IsEnding c (Err (Memory n)) h = ⊥

-- where an end is refused since a frame was not handled
abbrev pub IfUnreleased : {U : Type 0} → Result U CollectFault → Type 0 → Type 0
IfUnreleased (Ok u) P = Unit {0}
IfUnreleased (Err Unreleased) P = P
IfUnreleased (Err (Unterminated start)) P = Unit {0}
IfUnreleased (Err NotOpen) P = Unit {0}
IfUnreleased (Err AlreadyOpen) P = Unit {0}
IfUnreleased (Err TooManyOpen) P = Unit {0}
IfUnreleased (Err ConnFailed) P = Unit {0}
IfUnreleased (Err StreamTooLong) P = Unit {0}
IfUnreleased (Err (Memory n)) P = Unit {0}

-- where a call was refused and has taken nothing: each refusal but want of memory and an unfinished frame
abbrev pub IfRefused : {A : Type 0} → Result A CollectFault → Type 0 → Type 0
IfRefused (Ok a) P = Unit {0}
IfRefused (Err (Memory n)) P = Unit {0}
IfRefused (Err (Unterminated start)) P = Unit {0}
IfRefused (Err AlreadyOpen) P = P
IfRefused (Err TooManyOpen) P = P
IfRefused (Err NotOpen) P = P
IfRefused (Err ConnFailed) P = P
IfRefused (Err StreamTooLong) P = P
IfRefused (Err Unreleased) P = P

-- where memory was refused
abbrev pub IfMemory : {A : Type 0} → Result A CollectFault → Type 0 → Type 0
IfMemory (Ok a) P = Unit {0}
IfMemory (Err (Memory n)) P = P
IfMemory (Err (Unterminated start)) P = Unit {0}
IfMemory (Err AlreadyOpen) P = Unit {0}
IfMemory (Err TooManyOpen) P = Unit {0}
IfMemory (Err NotOpen) P = Unit {0}
IfMemory (Err ConnFailed) P = Unit {0}
IfMemory (Err StreamTooLong) P = Unit {0}
IfMemory (Err Unreleased) P = Unit {0}
