-- Where a collector stands: after which events, over which first set.
use Rattle.std.specs.Prelude.{◌≡◌, ◌==◌, ℕ, cond, List, [], ◌∷◌, ◌++◌, ◌⊎◌, length, Option, Some, None}
use Rattle.syslog_frame.specs.Frames.{IsBadAt}
use Rattle.syslog_frame.specs.Reads.{Reads}
use Rattle.syslog_frame.specs.Scan.{Scan, HasBadCount, IsFailed}
use Rattle.syslog_frame.specs.declared.limits.TheConstants.{FRAME_MAX}
use Rattle.archive_text.specs.Entries.{Entry}
use Rattle.syslog_legacy.specs.declared.frame_reading.FrameReading.{FrameReading}
use Rattle.syslog_collect.specs.declared.connection.Connection.{Connection}
use Rattle.syslog_collect.specs.declared.connections.Connections.{Connections}
use Rattle.syslog_collect.specs.Frames.{AreFramesOf, Gains, all_of}
use Rattle.syslog_collect.specs.History.{AreAcceptable, History, Stream, AcceptedEvent, history_of}
use Rattle.syslog_collect.specs.Numbers.{connection_in, count_in}

-- the scanner has taken the octets of the opening: these frames were handled, and it stands at a rest
pub record IsOpenAt (scanner : Scan) (s : Stream) (handled : List (List ℕ)) : Type 0 where
  pub rest : List ℕ
  pub reads : Reads FRAME_MAX scanner s.framing 0 s.octets handled rest
  pub good : ¬ (HasBadCount scanner)

-- or the octets hold a bad count, and each frame before it was handled
pub record IsBrokenAt (scanner : Scan) (s : Stream) (handled : List (List ℕ)) : Type 0 where
  pub rest : List ℕ
  pub offset : ℕ
  pub bad : IsBadAt s.framing s.octets handled rest offset
  pub failed : IsFailed scanner

-- a connection is at an opening of which these frames were handled
pub record IsAt (c : Connection) (s : Stream) (handled : List (List ℕ)) : Type 0 where
  pub number : c.number ≡ s.number
  pub scanner : IsOpenAt c.scanner s handled ⊎ IsBrokenAt c.scanner s handled

-- the connections are at the openings, in order
abbrev pub AreAt : List Connection → List Stream → List (List (List ℕ)) → Type 0
AreAt [] [] [] = Unit {0}
AreAt (c ∷ cs) (s ∷ ss) (f ∷ fs) = IsAt c s f × AreAt cs ss fs
AreAt [] [] (f ∷ fs) = ⊥
AreAt [] (s ∷ ss) [] = ⊥
AreAt [] (s ∷ ss) (f ∷ fs) = ⊥
AreAt (c ∷ cs) [] [] = ⊥
AreAt (c ∷ cs) [] (f ∷ fs) = ⊥
AreAt (c ∷ cs) (s ∷ ss) [] = ⊥

-- connections in order of opening are at a history, and the entries are the first and those of the frames handled
pub record StandsInOrder (way : FrameReading) (cs : List Connection) (kept first : List Entry) (h : History) : Type 0
  where
    pub handled : List (List (List ℕ))
    pub ended_frames : List (List (List ℕ))
    pub follow : AreAt cs h.streams handled
    pub ended_are : AreFramesOf h.ended ended_frames
    pub gains : Gains way first kept (all_of handled ++ (all_of ended_frames ++ h.datagrams))

-- the first connection of a number in a list
abbrev pub connection_of : List Connection → ℕ → Option Connection
connection_of [] d = None
connection_of (c ∷ cs) d = cond (c.number == d) (Some c) (connection_of cs d)

-- connections, put in order of opening, and entries are at a history
pub record StandsAt (way : FrameReading) (cs : Connections) (kept first : List Entry) (h : History) : Type 0 where
  pub order : List Connection
  pub all : (d : ℕ) → connection_in cs d ≡ connection_of order d
  pub count : count_in cs ≡ length order
  pub in_order : StandsInOrder way order kept first h

-- connections and entries stand at first entries and acceptable events
pub record Stands (way : FrameReading) (cs : Connections) (kept first : List Entry) (events : List AcceptedEvent) : Type
    0 where
  pub acceptable : AreAcceptable events
  pub stands_at : StandsAt way cs kept first (history_of events)
