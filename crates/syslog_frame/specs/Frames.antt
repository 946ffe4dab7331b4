-- How records are framed on a stream (RFC 6587, 3.4).
use Rattle.std.specs.Prelude.{◌≡◌, ◌≢◌, ℕ, ◌+◌, ◌<◌, ◌≤◌, List, [], ◌∷◌, ◌++◌, length, decimal}
use Rattle.std.specs.Prelude.{nat_le, if◌then◌else◌, Option, Some, None}
use Rattle.std.specs.List.{AllByRecursion, flat_map}
use Rattle.octet_language.specs.Language.{Language, AnyOf, Begins, IsFaultOffset, NoPrefix}
use Rattle.syslog_frame.specs.declared.framing.Framing.{Framing}
use Rattle.syslog_frame.specs.declared.framing.Framing.TheVariants.{Counted, Lf}
use Rattle.syslog_frame.specs.declared.limits.TheConstants.{COUNT_MAX}

-- no octet is a line feed
abbrev pub IsLine : List ℕ → Type 0
IsLine frame = AllByRecursion (λ x. x ≢ 10) frame

-- what a framing can carry: octets that a count can number, at least one; or a line
abbrev pub CanCarry : Framing → List ℕ → Type 0
CanCarry Counted frame = (0 < length frame) × (length frame ≤ COUNT_MAX)
CanCarry Lf frame = IsLine frame

-- a frame on the stream: its length, a space and the frame (3.4.1); or the frame and a line feed (3.4.2)
abbrev pub framed : Framing → List ℕ → List ℕ
framed Counted frame = decimal (length frame) ++ 32 ∷ frame
framed Lf frame = frame ++ 10 ∷ []

-- the texts of a frame
abbrev pub Frame : Framing → List ℕ → Language
Frame kind frame b = CanCarry kind frame × (b ≡ framed kind frame)

-- the octets are one whole frame
abbrev pub Whole : Framing → Language
Whole kind = AnyOf (Frame kind)

-- the stream is these frames, and then a rest of which no prefix is a whole frame
pub record Frames (kind : Framing) (stream : List ℕ) (frames : List (List ℕ)) (rest : List ℕ)
    : Type 0 where
  pub whole : stream ≡ flat_map (framed kind) frames ++ rest
  pub each : AllByRecursion (CanCarry kind) frames
  pub none : NoPrefix (Whole kind) rest

-- no frame begins with the rest after these frames: every one stops at this offset of the stream
pub record IsBadAt (kind : Framing) (stream : List ℕ) (frames : List (List ℕ)) (rest : List ℕ)
    (at : ℕ) : Type 0 where
  pub frames_are : Frames kind stream frames rest
  pub none : ¬ (Begins (Whole kind) rest)
  pub offset : (n : ℕ) × IsFaultOffset (Whole kind) rest n × (at + length rest ≡ length stream + n)

-- a frame as it is delivered: nothing but that it came, where it is longer than the limit
abbrev pub delivered : ℕ → List ℕ → Option (List ℕ)
delivered most f = if nat_le (length f) most then Some f else None
