-- The frame that comes first in a piece of a stream (RFC 6587, 3.4).
use Rattle.std.specs.Prelude.{◌≡◌, ℕ, ℤ, pos, negsuc, ◌+◌, ◌^◌, ◌<◌, ◌≤◌, List, ◌⊎◌, length, take, ⊤}
use Rattle.octet_language.specs.Language.{AnyOf, Begins, IsFaultOffset, NoPrefix}
use Rattle.octet_language.specs.Reading.{Follows}
use Rattle.syslog_frame.specs.Frames.{Frame, IsLine, Whole}
use Rattle.syslog_frame.specs.MsgLen.{MsgLen}
use Rattle.syslog_frame.specs.declared.framing.Framing.{Framing}
use Rattle.syslog_frame.specs.declared.framing.Framing.TheVariants.{Counted, Lf}
use Rattle.c_library.specs.Spans.{LiesAt}
use Rattle.c_library.specs.declared.frame.NextFrame.{NextFrame}
use Rattle.c_library.specs.declared.frame.NextFrame.TheVariants.{Complete, Waits, Broken}

-- the number of a framing in include/syslogbox.h
abbrev pub framing_number : Framing → ℤ
framing_number Counted = pos 1
framing_number Lf = pos 2

-- a whole frame comes first: the first `used` octets, of which those from `start` to `end` are the frame
pub record IsComplete (kind : Framing) (piece : List ℕ) (start end used : ℕ) : Type 0 where
  pub frame : List ℕ
  pub within : used ≤ length piece
  pub whole : Frame kind frame (take used piece)
  pub lies : LiesAt piece start frame
  pub end_is : end ≡ start + length frame

-- the count of a frame that is not whole yet was read, and where the frame begins and will end; or none was, and both are 0,
-- as of a line, of which no octet is a line feed
abbrev pub IsAwaited : Framing → List ℕ → ℕ → ℕ → Type 0
IsAwaited Counted piece start end =
    ((count : ℕ) × (rest : List ℕ) × Follows (MsgLen count) piece rest
    × (start + length rest ≡ length piece) × (end ≡ start + count) × (length piece < end))
    ⊎ (NoPrefix (AnyOf MsgLen) piece × (start ≡ 0) × (end ≡ 0))
IsAwaited Lf piece start end = IsLine piece × (start ≡ 0) × (end ≡ 0)

-- what comes first in a piece
abbrev pub IsNextFrame : Framing → List ℕ → NextFrame → Type 0
IsNextFrame kind piece (Complete start end used) = IsComplete kind piece start end used
IsNextFrame kind piece (Waits start end) =
    NoPrefix (Whole kind) piece × Begins (Whole kind) piece × IsAwaited kind piece start end
IsNextFrame kind piece (Broken at) =
    NoPrefix (Whole kind) piece × ¬ (Begins (Whole kind) piece) × IsFaultOffset (Whole kind) piece at

-- the caller's two numbers
pub record Bounds : Type 0 where
  pub start : ℕ
  pub end : ℕ

-- a whole frame takes octets, and so many that the answer can tell
abbrev pub IsAnswerable : NextFrame → Type 0
IsAnswerable (Complete start end used) = (0 < used) × (used < 2 ^ 63)
IsAnswerable (Waits start end) = ⊤
IsAnswerable (Broken at) = ⊤

-- what is answered of it, and what is left in the caller's numbers
abbrev pub IsAnswered : NextFrame → Bounds → Bounds → ℤ → Type 0
IsAnswered (Complete start end used) old new answer =
    (answer ≡ pos used) × (0 < used) × (new ≡ record { start = start; end = end })
IsAnswered (Waits start end) old new answer = (answer ≡ pos 0) × (new ≡ record { start = start; end = end })
IsAnswered (Broken at) old new answer = (answer ≡ negsuc 0) × (new ≡ record { start = at; end = at })

-- the framing is one, and this is what comes first; or it is none, the answer is -2, and nothing changes
abbrev pub Frames : ℤ → List ℕ → Bounds → Bounds → ℤ → Type 0
Frames number piece old new answer =
    ((kind : Framing) × (number ≡ framing_number kind)
    × (next : NextFrame) × IsNextFrame kind piece next × IsAnswered next old new answer)
    ⊎ (((kind : Framing) → ¬ (number ≡ framing_number kind)) × (answer ≡ negsuc 1) × (new ≡ old))
