-- What keeps octets from being written as a frame.
use Rattle.std.specs.Prelude.{◌≡◌, ℕ, ◌<◌, ◌≤◌, List, [], length}
use Rattle.syslog_frame.specs.Frames.{IsLine}
use Rattle.syslog_frame.specs.declared.fault.PutFault.{PutFault}
use Rattle.syslog_frame.specs.declared.fault.PutFault.TheVariants.{Empty, HasLf, TooLong, Memory}
use Rattle.syslog_frame.specs.declared.framing.Framing.{Framing}
use Rattle.syslog_frame.specs.declared.framing.Framing.TheVariants.{Counted, Lf}

-- one octet or more to count; or a line
abbrev pub IsFit : Framing → List ℕ → Type 0
IsFit Counted octets = 0 < length octets
IsFit Lf octets = IsLine octets

-- why the octets are refused, the first reason that holds
abbrev pub IsPutFault : ℕ → Framing → List ℕ → PutFault → Type 0
IsPutFault most kind octets Empty = (kind ≡ Counted) × (octets ≡ [])
IsPutFault most kind octets HasLf = (kind ≡ Lf) × ¬ (IsLine octets)
IsPutFault most kind octets TooLong = IsFit kind octets × (most < length octets)
IsPutFault most kind octets Memory = IsFit kind octets × (length octets ≤ most)
