-- What a scanner holds, and where it is in a stream.
use Rattle.std.specs.Prelude.{◌≡◌, ℕ, Bool, ◌+◌, ◌<◌, ◌≤◌, List, [], ◌∷◌, ◌++◌, length, decimal, ◌⊎◌}
use Rattle.syslog_frame.specs.Count.{IsCount}
use Rattle.syslog_frame.specs.Frames.{IsLine}
use Rattle.syslog_frame.specs.declared.framing.Framing.{Framing}
use Rattle.syslog_frame.specs.declared.framing.Framing.TheVariants.{Counted, Lf}
use Rattle.syslog_frame.specs.declared.limits.TheConstants.{COUNT_MAX}
use Rattle.syslog_frame.specs.declared.phase.Phase.{Phase}
use Rattle.syslog_frame.specs.declared.phase.Phase.TheVariants.{Counting, Inside, Ended, BadCount, Failed}

-- what a scanner holds: its framing, its position, and of the unfinished frame
pub record Scan : Type 0 where
  pub framing : Framing
  pub position : ℕ
  -- the position of its first octet
  pub start : ℕ
  pub phase : Phase
  -- the count before the record, as far as it was read
  pub count : ℕ
  -- how many octets of the record came, and these while they are few enough
  pub size : ℕ
  pub kept : List ℕ
  -- room for a whole record is reserved, for good
  pub reserved : Bool

-- a frame is ready, or that one was too long
abbrev pub HasFrame : Scan → Type 0
HasFrame s = s.phase ≡ Ended

-- a bad count is ready
abbrev pub HasBadCount : Scan → Type 0
HasBadCount s = s.phase ≡ BadCount

-- something is ready
abbrev pub HasReady : Scan → Type 0
HasReady s = HasFrame s ⊎ HasBadCount s

-- a bad count was released
abbrev pub IsFailed : Scan → Type 0
IsFailed s = s.phase ≡ Failed

-- nothing is ready, and the scanner has not failed: it takes octets
abbrev pub IsReading : Scan → Type 0
IsReading s = ¬ (HasReady s) × ¬ (IsFailed s)

-- the record's octets so far: so many, and known unless they are more than a frame may have
pub record Keeps (most : ℕ) (size : ℕ) (kept : List ℕ) (octets : List ℕ) : Type 0 where
  pub size_is : length octets ≡ size
  pub kept_is : size ≤ most → kept ≡ octets

-- a count, its space, and octets after them
pub record HasCount (most : ℕ) (count size : ℕ) (kept : List ℕ) (octets p : List ℕ) : Type 0 where
  pub some : 0 < count
  pub small : count ≤ COUNT_MAX
  pub keeps : Keeps most size kept octets
  pub text : p ≡ decimal count ++ 32 ∷ octets

-- these may be the octets since the last frame that was released
abbrev pub Holds : ℕ → Framing → Phase → ℕ → ℕ → List ℕ → List ℕ → Type 0
Holds most Lf Inside count size kept p = IsLine p × Keeps most size kept p
Holds most Lf Ended count size kept p =
    (line : List ℕ) × IsLine line × Keeps most size kept line × (p ≡ line ++ 10 ∷ [])
Holds most Counted Counting count size kept p = (count ≤ COUNT_MAX) × IsCount count p
Holds most Counted BadCount count size kept p = (count ≤ COUNT_MAX) × IsCount count p
Holds most Counted Inside count size kept p =
    (octets : List ℕ) × HasCount most count size kept octets p × (size < count)
Holds most Counted Ended count size kept p =
    (octets : List ℕ) × HasCount most count size kept octets p × (size ≡ count)
Holds most kind phase count size kept p = ⊥

-- the scanner is at this position of a stream of this framing, and these may be the octets since the
-- last frame that was released: those of a record above the limit may be any others of that number
pub record Stands (most : ℕ) (s : Scan) (kind : Framing) (position : ℕ) (p : List ℕ) : Type 0 where
  pub framing_is : s.framing ≡ kind
  pub position_is : s.position ≡ position
  pub start_is : s.start + length p ≡ position
  pub holds : Holds most kind s.phase s.count s.size s.kept p
