-- How much one turn of a connection gives.
use Rattle.std.specs.Prelude.{◌≡◌, ◌⊎◌, ℕ, zero, suc, ◌+◌, ◌-◌, ◌<◌, ◌≤◌, ◌==◌, ◌&&◌, ◌||◌, Bool, List, if◌then◌else◌, slice_index}
use Rattle.std.specs.Char.{is_ascii_digit}
use Rattle.std.specs.Prelude.{Option, IfSome}
use Rattle.syslog_frame.specs.declared.framing.Framing.{Framing}
use Rattle.syslog_frame.specs.declared.framing.Framing.TheVariants.{Counted, Lf}
use Rattle.socket_source.specs.Shares.{IsPartOfFrames, IsPartOfOctets}
use Rattle.socket_source.specs.declared.refusal.Reading.{Reading}
use Rattle.socket_source.specs.declared.refusal.Reading.TheVariants as reading
use Rattle.socket_source.specs.declared.share.Share.{Share}
use Rattle.socket_source.specs.declared.step.ServerStep.{ServerStep}
use Rattle.socket_source.specs.declared.step.ServerStep.TheVariants.{Opened, Piece, Ended, Datagram, TurnedAway}
use Rattle.socket_source.specs.declared.step.ServerStep.TheVariants.{NotAllowed, OverRate, Tick, InputEnded, Finished, Failed}

-- Whether the octet at a place may be the last of a frame of lines, or of the count before a frame (RFC 6587, 3.4.1: MSG-LEN SP). The
-- digit before the first octet may have come before.
abbrev pub is_mark : Framing → List ℕ → ℕ → Bool
is_mark Lf octets n = slice_index octets n == 10
is_mark Counted octets n = (slice_index octets n == 32) && ((n == 0) || is_ascii_digit (slice_index octets (n - 1)))

-- how many of the first octets are such
abbrev pub marks : Framing → List ℕ → ℕ → ℕ
marks framing octets zero = 0
marks framing octets (suc n) = marks framing octets n + (if is_mark framing octets n then 1 else 0)

-- so many of some first octets are given: all, or those up to the last mark that a turn may have
pub record IsFront (framing : Framing) (octets : List ℕ) (most len front : ℕ) : Type 0 where
  pub within : front ≤ len
  pub few : marks framing octets front ≤ most
  pub full : (front ≡ len) ⊎ (marks framing octets front ≡ most)
  pub least : (n : ℕ) → n < front → marks framing octets n < most

-- a read gives no more than its share
abbrev pub ReadsFront : Share → Framing → List ℕ → Reading → Type 0
ReadsFront share framing octets (reading.Piece len) = (len ≤ share.octets) × (marks framing octets len ≤ share.frames)
ReadsFront share framing octets (reading.Ended end) = Unit {0}
ReadsFront share framing octets reading.Dry = Unit {0}
ReadsFront share framing octets reading.Again = Unit {0}

-- so it is, if the step gives octets of a connection
abbrev pub IfPiece : (ℕ → ℕ → Type 0) → ServerStep → Type 0
IfPiece P (Opened conn listener framing peer) = Unit {0}
IfPiece P (Piece conn len) = P conn len
IfPiece P (Ended conn end) = Unit {0}
IfPiece P (Datagram listener peer len) = Unit {0}
IfPiece P (TurnedAway listener framing peer) = Unit {0}
IfPiece P (NotAllowed listener peer) = Unit {0}
IfPiece P (OverRate listener peer) = Unit {0}
IfPiece P Tick = Unit {0}
IfPiece P InputEnded = Unit {0}
IfPiece P Finished = Unit {0}
IfPiece P (Failed fault) = Unit {0}

-- a step gives no more octets of a connection than a share, where these are the framings of those that are open
abbrev pub IsWithinShare : Share → (ℕ → Option Framing) → List ℕ → ServerStep → Type 0
IsWithinShare share framings octets =
    IfPiece (λ conn len. (len ≤ share.octets) × IfSome (framings conn) (λ framing. marks framing octets len ≤ share.frames))

-- a step gives no more octets of a connection than its part of a round, where so many sockets are ready
abbrev pub IsBounded : ℕ → (ℕ → Option Framing) → List ℕ → ServerStep → Type 0
IsBounded ready framings octets =
    IfPiece (λ conn len. IsPartOfOctets ready len
    × IfSome (framings conn) (λ framing. IsPartOfFrames ready (marks framing octets len)))
