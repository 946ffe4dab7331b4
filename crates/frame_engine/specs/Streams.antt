-- What comes of a stream whose frames are handled in order.
use Rattle.std.specs.Prelude.{◌≡◌, ℕ, ◌+◌, ◌<◌, List, [], ◌∷◌, ◌++◌, length, ◌⊎◌, Option, Some, None}
use Rattle.std.specs.List.{AllByRecursion, flat_map}
use Rattle.octet_language.specs.Language.{Begins}
use Rattle.syslog_frame.specs.Frames.{CanCarry, Frame, Frames, IsBadAt, Whole, framed}
use Rattle.syslog_frame.specs.Reads.{Reads}
use Rattle.syslog_frame.specs.Scan.{Scan, HasBadCount, HasFrame, IsFailed, IsReading}
use Rattle.syslog_frame.specs.declared.framing.Framing.{Framing}
use Rattle.syslog_frame.specs.declared.limits.TheConstants.{FRAME_MAX}
use Rattle.driver.specs.Effects.{Adds, Done, nothing, then_done}
use Rattle.frame_engine.specs.Handling.{HandledFrom, Handling}
use Rattle.frame_engine.specs.declared.line.Line.{Line}
use Rattle.frame_engine.specs.declared.line.Line.TheVariants.{BadCount, Unterminated}
use Rattle.frame_engine.specs.declared.stream.Step.{Step}
use Rattle.frame_engine.specs.declared.stream.Step.TheVariants.{Nothing, Bad, Handled}

-- what is reported of the end of a stream: nothing after its last frame; where an unfinished frame begins; or where a
-- MSG-LEN is bad, with the number that its frame would have
abbrev pub ReportsEnd : (Line → Done) → Framing → List ℕ → List (List ℕ) → List ℕ → Done → Type 0
ReportsEnd T kind stream frames rest d =
    ((rest ≡ []) × (d ≡ nothing))
    ⊎ (((start : ℕ) × (0 < length rest) × Begins (Whole kind) rest × (start + length rest ≡ length stream)
    × (d ≡ T (Unterminated start)))
    ⊎ ((at : ℕ) × IsBadAt kind stream frames rest at × (d ≡ T (BadCount (length frames + 1) at))))

-- what comes of a stream: of its frames in order, numbered from 1, and then of its end
pub record StreamDone (D : Handling) (T : Line → Done) (kind : Framing) (stream : List ℕ) (d : Done) : Type 0 where
  pub frames : List (List ℕ)
  pub rest : List ℕ
  pub of_frames : Done
  pub of_end : Done
  pub frames_are : Frames kind stream frames rest
  pub handled : HandledFrom D 1 frames of_frames
  pub reported : ReportsEnd T kind stream frames rest of_end
  pub whole : d ≡ then_done of_frames of_end

-- what is reported of the end of a stream by a line, if there is one
abbrev pub of_line : (Line → Done) → Option Line → Done
of_line T None = nothing
of_line T (Some line) = T line

-- the scanner read these octets, and the frames that it released were handled, so that the handler stands as it does
-- after these; the next frame has this number
pub record HasHandled (D : Handling) (S : List (List ℕ) → Type 0) (s : Scan) (kind : Framing) (octets : List ℕ)
    (number : ℕ) (total : Done) : Type 0
  where
    pub frames : List (List ℕ)
    pub rest : List ℕ
    pub reads : Reads FRAME_MAX s kind 0 octets frames rest
    pub handled : HandledFrom D 1 frames total
    pub stands : S frames
    pub number_is : number ≡ length frames + 1

-- the stream is bad at an offset, and all frames before it were handled
pub record HasBad (D : Handling) (S : List (List ℕ) → Type 0) (kind : Framing) (stream : List ℕ) (number : ℕ)
    (total : Done) (at : ℕ) : Type 0
  where
    pub frames : List (List ℕ)
    pub rest : List ℕ
    pub bad : IsBadAt kind stream frames rest at
    pub handled : HandledFrom D 1 frames total
    pub stands : S frames
    pub number_is : number ≡ length frames + 1

-- the stream begins with some frames, and these were handled
pub record HasPart (D : Handling) (kind : Framing) (stream : List ℕ) (total : Done) : Type 0 where
  pub frames : List (List ℕ)
  pub rest : List ℕ
  pub whole : stream ≡ flat_map (framed kind) frames ++ rest
  pub each : AllByRecursion (CanCarry kind) frames
  pub handled : HandledFrom D 1 frames total

-- what a step does where the scanner has read these octets: frames that it released, and this rest
abbrev pub HandlesStep : Handling → (List (List ℕ) → Type 0) → ℕ → Framing → List ℕ → List (List ℕ) → List ℕ → Done
    → Done → Step → Type 0
HandlesStep D S number kind octets frames rest old new Nothing = (new ≡ old) × S frames
HandlesStep D S number kind octets frames rest old new (Bad at) = (new ≡ old) × (at ≡ length octets) × S frames
HandlesStep D S number kind octets frames rest old new Handled =
    (f : List ℕ) × Frame kind f rest × Adds (D number f) old new × S (frames ++ f ∷ [])

-- what a step says of the scanner
abbrev pub StepImplies : Scan → Step → Type 0
StepImplies s Nothing = IsReading s ⊎ IsFailed s
StepImplies s (Bad at) = HasBadCount s
StepImplies s Handled = HasFrame s

-- a stream goes on being handled; or it is bad at this offset, whatever octets follow
abbrev pub HandlesOn : Handling → (List (List ℕ) → Type 0) → Scan → Framing → List ℕ → ℕ → Done → Option ℕ → Type 0
HandlesOn D S s kind octets number total None = HasHandled D S s kind octets number total
HandlesOn D S s kind octets number total (Some at) = (more : List ℕ) → HasBad D S kind (octets ++ more) number total at
