-- What was read of a stream so far.
use Rattle.std.specs.Prelude.{◌≡◌, ℕ, ◌+◌, ◌<◌, ◌≤◌, List, [], ◌∷◌, ◌++◌, length, take}
use Rattle.std.specs.Prelude.{Option, Some, None, Result, Ok, Err}
use Rattle.std.specs.List.{AllByRecursion, flat_map}
use Rattle.octet_language.specs.Language.{Begins}
use Rattle.syslog_frame.specs.Frames.{CanCarry, Frame, Frames, IsBadAt, Whole, framed}
use Rattle.syslog_frame.specs.Scan.{Scan, Stands, HasBadCount, HasReady}
use Rattle.syslog_frame.specs.declared.fault.EndFault.{EndFault}
use Rattle.syslog_frame.specs.declared.fault.EndFault.TheVariants.{Failed, Unreleased, Unterminated}
use Rattle.syslog_frame.specs.declared.framing.Framing.{Framing}
use Rattle.syslog_frame.specs.declared.ready.Ready.{Ready}
use Rattle.syslog_frame.specs.declared.ready.Ready.TheVariants.{Frame as ready_frame, TooLong, BadCount}

-- these octets of a stream were taken, the first of them at the position `first`: the frames that
-- were released, then a rest at which the scanner is
pub record Reads (most : ℕ) (s : Scan) (kind : Framing) (first : ℕ) (octets : List ℕ)
    (frames : List (List ℕ)) (rest : List ℕ) : Type 0 where
  pub whole : octets ≡ flat_map (framed kind) frames ++ rest
  pub each : AllByRecursion (CanCarry kind) frames
  pub stands : Stands most s kind (first + length octets) rest

-- n octets of a piece are read too; with a bad count ready, the stream is bad after them, with the
-- next octet and however it continues
pub record ReadsOn (most : ℕ) (s : Scan) (kind : Framing) (first : ℕ) (octets : List ℕ)
    (frames : List (List ℕ)) (rest piece : List ℕ) (n : ℕ) : Type 0 where
  pub reads : Reads most s kind first (octets ++ take n piece) frames (rest ++ take n piece)
  pub bad : HasBadCount s → (more : List ℕ)
      → IsBadAt kind ((octets ++ take (n + 1) piece) ++ more) frames
      ((rest ++ take (n + 1) piece) ++ more) (length (octets ++ take n piece))

-- what is ready after the frames that were released: nothing, so that these are the frames of what
-- was read; one frame more, reported as it is or as too long; or a bad count
abbrev pub IsReadyBehind : ℕ → Framing → ℕ → List ℕ → List (List ℕ) → List ℕ → Option Ready → Type 0
IsReadyBehind most kind first octets frames rest None =
    Frames kind octets frames rest × Begins (Whole kind) rest
IsReadyBehind most kind first octets frames rest (Some (ready_frame f)) =
    Frame kind f.now rest × (length f.now ≤ most) × Frames kind octets (frames ++ f.now ∷ []) []
IsReadyBehind most kind first octets frames rest (Some TooLong) =
    (f : List ℕ) × Frame kind f rest × (most < length f) × Frames kind octets (frames ++ f ∷ []) []
IsReadyBehind most kind first octets frames rest (Some (BadCount at)) =
    Frames kind octets frames rest × (at ≡ first + length octets)

-- whether the stream may stop after the octets that were read
abbrev pub StopsBehind : {U : Type 0} → Scan → Framing → ℕ → List ℕ → List (List ℕ) → List ℕ
    → Result U EndFault → Type 0
StopsBehind s kind first octets frames rest (Ok _) = (rest ≡ []) × Frames kind octets frames []
StopsBehind s kind first octets frames rest (Err Failed) = ⊥
StopsBehind s kind first octets frames rest (Err Unreleased) = HasReady s
StopsBehind s kind first octets frames rest (Err (Unterminated start)) =
    Frames kind octets frames rest × Begins (Whole kind) rest
    × (0 < length rest) × (start + length rest ≡ first + length octets)
