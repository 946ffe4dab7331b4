-- A frame that octets of a stream begin with.
use Rattle.std.specs.Prelude.{◌≡◌, ℕ, ◌<◌, ◌≤◌, List, ◌++◌, length, take, Option, Some, None}
use Rattle.syslog_frame.specs.Frames.{CanCarry, Frame, framed}
use Rattle.syslog_frame.specs.declared.framing.Framing.{Framing}
use Rattle.syslog_frame.specs.declared.frame_ref.FrameRef.{FrameRef}

-- the frame that comes first, and how many octets it takes; nothing where none comes first, or one that is too long
abbrev pub IsFrameRef : ℕ → Framing → List ℕ → Option FrameRef → Type 0
IsFrameRef most kind octets None =
    (f rest : List ℕ) → CanCarry kind f → octets ≡ framed kind f ++ rest → most < length f
IsFrameRef most kind octets (Some x) =
    Frame kind x.frame.now (take x.used octets) × (x.used ≤ length octets) × (length x.frame.now ≤ most)
