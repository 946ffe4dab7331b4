-- The frames of a stream that is read in pieces.
use Rattle.std.specs.Prelude.{◌≡◌, ℕ, ◌+◌, ◌<◌, ◌⊎◌, List, [], ◌∷◌, ◌++◌, length, map}
use Rattle.std.specs.Prelude.{Option, Some, None}
use Rattle.octet_language.specs.Language.{Begins}
use Rattle.syslog_frame.specs.Frames.{Frame, Frames, IsBadAt, Whole, delivered}
use Rattle.syslog_frame.specs.Reads.{Reads}
use Rattle.syslog_frame.specs.Scan.{Scan, HasBadCount, HasFrame, IsFailed, IsReading}
use Rattle.syslog_frame.specs.declared.framing.Framing.{Framing}
use Rattle.syslog_frame.specs.declared.pieces.Step.{Step}
use Rattle.syslog_frame.specs.declared.pieces.Step.TheVariants.{Nothing, Bad, Delivered}
use Rattle.syslog_frame.specs.declared.pieces.StreamEnd.{StreamEnd}
use Rattle.syslog_frame.specs.declared.pieces.StreamEnd.TheVariants.{Whole as end_whole, Unterminated, BadCount}

-- how a stream stops after its frames: with the last; inside a frame; or at a bad offset
abbrev pub StopsAs : Framing → List ℕ → List (List ℕ) → List ℕ → StreamEnd → Type 0
StopsAs kind stream frames rest end_whole = rest ≡ []
StopsAs kind stream frames rest (Unterminated start) =
    (0 < length rest) × Begins (Whole kind) rest × (start + length rest ≡ length stream)
StopsAs kind stream frames rest (BadCount at) = IsBadAt kind stream frames rest at

-- these are the stream's frames as they are delivered, and so it stops
pub record IsRead (most : ℕ) (kind : Framing) (stream : List ℕ) (out : List (Option (List ℕ)))
    (stop : StreamEnd) : Type 0 where
  pub frames : List (List ℕ)
  pub rest : List ℕ
  pub frames_are : Frames kind stream frames rest
  pub out_is : out ≡ map (delivered most) frames
  pub stops : StopsAs kind stream frames rest stop

-- the frames that were released are those that were delivered
pub record HasDelivered (most : ℕ) (s : Scan) (kind : Framing) (octets : List ℕ)
    (out : List (Option (List ℕ))) : Type 0 where
  pub frames : List (List ℕ)
  pub rest : List ℕ
  pub reads : Reads most s kind 0 octets frames rest
  pub out_is : out ≡ map (delivered most) frames

-- what a step delivers where the scanner read these octets and is at the rest
abbrev pub Delivers : ℕ → Framing → List ℕ → List ℕ → List (Option (List ℕ)) → List (Option (List ℕ))
    → Step → Type 0
Delivers most kind octets rest old new Nothing = new ≡ old
Delivers most kind octets rest old new (Bad at) = (new ≡ old) × (at ≡ length octets)
Delivers most kind octets rest old new Delivered =
    (f : List ℕ) × Frame kind f rest × (new ≡ old ++ delivered most f ∷ [])

-- what a step reports of the scanner
abbrev pub StepImplies : Scan → Step → Type 0
StepImplies s Nothing = IsReading s ⊎ IsFailed s
StepImplies s (Bad at) = HasBadCount s
StepImplies s Delivered = HasFrame s

-- a piece continues what was delivered; or the stream is bad at this offset, however it continues
abbrev pub DeliversOn : ℕ → Scan → Framing → List ℕ → List (Option (List ℕ)) → Option ℕ → Type 0
DeliversOn most s kind octets out None = HasDelivered most s kind octets out
DeliversOn most s kind octets out (Some at) =
    (more : List ℕ) → IsRead most kind (octets ++ more) out (BadCount at)
