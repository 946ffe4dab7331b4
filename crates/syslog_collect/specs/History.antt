-- What a list of events says, with no word of how a collector works.
use Rattle.std.specs.Prelude.{◌≡◌, ℕ, ◌+◌, ◌<◌, ◌≤◌, cond, List, [], ◌∷◌, ◌++◌, length}
use Rattle.std.specs.Prelude.{Option, Some, None, ◌==◌, IsSome, IsSomeAnd}
use Rattle.syslog_frame.specs.Frames.{IsBadAt}
use Rattle.syslog_frame.specs.declared.framing.Framing.{Framing}
use Rattle.syslog_frame.specs.declared.limits.TheConstants.{POSITION_MAX}
use Rattle.syslog_collect.specs.declared.limits.TheConstants.{CONNECTIONS_LIMIT}

-- what a collector accepts: an opening of a number, octets of an open number, its end, a datagram
pub data AcceptedEvent : Type 0 where
  Opened : ℕ → Framing → AcceptedEvent
  Piece : ℕ → List ℕ → AcceptedEvent
  Ended : ℕ → AcceptedEvent
  Datagram : List ℕ → AcceptedEvent

-- an opening, and its octets so far
pub record Stream : Type 0 where
  pub number : ℕ
  pub framing : Framing
  pub octets : List ℕ

-- the openings that are open, in order of opening; those that have ended; and the datagrams
pub record History : Type 0 where
  pub streams : List Stream
  pub ended : List Stream
  pub datagrams : List (List ℕ)

-- the octets of an opening hold a bad count
abbrev pub HoldsBadCount : Stream → Type 0
HoldsBadCount s = (frames : List (List ℕ)) × (rest : List ℕ) × (at : ℕ) × IsBadAt s.framing s.octets frames rest at

-- the opening of a number, if it is open
abbrev pub stream_of : ℕ → List Stream → Option Stream
stream_of c [] = None
stream_of c (s ∷ ss) = cond (s.number == c) (Some s) (stream_of c ss)

-- as a list
abbrev pub streams_of : ℕ → List Stream → List Stream
streams_of c [] = []
streams_of c (s ∷ ss) = cond (s.number == c) (s ∷ []) (streams_of c ss)

-- an opening with octets more
abbrev pub with_octets : Stream → List ℕ → Stream
with_octets s o = record { number = s.number; framing = s.framing; octets = s.octets ++ o }

-- a piece joins the octets of its number's opening
abbrev pub with_piece : ℕ → List ℕ → List Stream → List Stream
with_piece c o [] = []
with_piece c o (s ∷ ss) = cond (s.number == c) (with_octets s o ∷ ss) (s ∷ with_piece c o ss)

-- the openings without that of a number
abbrev pub without : ℕ → List Stream → List Stream
without c [] = []
without c (s ∷ ss) = cond (s.number == c) ss (s ∷ without c ss)

-- the history with one event more
abbrev pub accept : History → AcceptedEvent → History
accept h (Opened c k) = record h { streams = h.streams ++ record { number = c; framing = k; octets = [] } ∷ [] }
accept h (Piece c o) = record h { streams = with_piece c o h.streams }
accept h (Ended c) = record h { streams = without c h.streams; ended = h.ended ++ streams_of c h.streams }
accept h (Datagram o) = record h { datagrams = h.datagrams ++ o ∷ [] }

-- a piece may come: no bad count came before it, and the octets with it are few enough
abbrev pub MayContinue : List ℕ → Stream → Type 0
MayContinue o s = ¬ (HoldsBadCount s) × (length s.octets + length o ≤ POSITION_MAX)

-- the event may come after the history
abbrev pub MayAccept : History → AcceptedEvent → Type 0
MayAccept h (Opened c k) = (stream_of c h.streams ≡ None) × (length h.streams < CONNECTIONS_LIMIT)
MayAccept h (Piece c o) = IsSomeAnd (stream_of c h.streams) (MayContinue o)
MayAccept h (Ended c) = IsSome (stream_of c h.streams)
MayAccept h (Datagram o) = Unit {0}

-- before any event
abbrev pub initial : History
initial = record { streams = []; ended = []; datagrams = [] }

-- the history after events more
abbrev pub history_after : History → List AcceptedEvent → History
history_after h [] = h
history_after h (e ∷ es) = history_after (accept h e) es

-- the history of events
abbrev pub history_of : List AcceptedEvent → History
history_of es = history_after initial es

-- each of the events may come after those before it
abbrev pub MayAcceptAll : History → List AcceptedEvent → Type 0
MayAcceptAll h [] = Unit {0}
MayAcceptAll h (e ∷ es) = MayAccept h e × MayAcceptAll (accept h e) es

-- the events are acceptable
abbrev pub AreAcceptable : List AcceptedEvent → Type 0
AreAcceptable es = MayAcceptAll initial es
