-- What an observer is told of frames; t tells what it becomes where it is told of an outcome and of a frame's octets.
use Rattle.std.specs.Prelude.{◌≡◌, ◌⊎◌, ℕ, List, [], ◌∷◌, ◌++◌, length, Option, Some, None}
use Rattle.syslog_frame.specs.Frames.{Frame}
use Rattle.syslog_frame.specs.Reads.{Reads}
use Rattle.syslog_frame.specs.Scan.{Scan}
use Rattle.syslog_frame.specs.declared.framing.Framing.{Framing}
use Rattle.syslog_frame.specs.declared.limits.TheConstants.{FRAME_MAX}
use Rattle.syslog_collect.specs.declared.connection.Connection.{Connection}
use Rattle.syslog_collect.specs.declared.outcome.Outcome.{Outcome}
use Rattle.syslog_collect.specs.declared.outcome.Outcome.TheVariants.{New, Held, Refused, RefusedLegacy, TooLong}
use Rattle.syslog_collect.specs.declared.outcome.Outcome.TheVariants.{BadCount}
use Rattle.syslog_collect.specs.Frames.{IsFramesOf}
use Rattle.syslog_collect.specs.History.{Stream, with_octets}
use Rattle.syslog_collect.specs.Standing.{IsAt}

-- it was told of this frame and its outcome; a frame that is too long may come without its octets
abbrev pub IsToldOf : {O : Type 0} → (O → Outcome → Option (List ℕ) → O → Type 0) → O → List ℕ → Outcome → O → Type 0
IsToldOf t x f New y = t x New (Some f) y
IsToldOf t x f Held y = t x Held (Some f) y
IsToldOf t x f (Refused fault) y = t x (Refused fault) (Some f) y
IsToldOf t x f (RefusedLegacy offset) y = t x (RefusedLegacy offset) (Some f) y
IsToldOf t x f TooLong y = t x TooLong None y ⊎ t x TooLong (Some f) y
IsToldOf t x f (BadCount at) y = ⊥

-- of the frames of one outcome: of one; or of a bad count, and no frame
abbrev pub IsTold : {O : Type 0} → (O → Outcome → Option (List ℕ) → O → Type 0) → O → List (List ℕ) → Outcome → O
    → Type 0
IsTold t x frames (BadCount at) y = (frames ≡ []) × t x (BadCount at) None y
IsTold t x frames New y = (f : List ℕ) × (frames ≡ f ∷ []) × IsToldOf t x f New y
IsTold t x frames Held y = (f : List ℕ) × (frames ≡ f ∷ []) × IsToldOf t x f Held y
IsTold t x frames (Refused fault) y = (f : List ℕ) × (frames ≡ f ∷ []) × IsToldOf t x f (Refused fault) y
IsTold t x frames (RefusedLegacy offset) y =
    (f : List ℕ) × (frames ≡ f ∷ []) × IsToldOf t x f (RefusedLegacy offset) y
IsTold t x frames TooLong y = (f : List ℕ) × (frames ≡ f ∷ []) × IsToldOf t x f TooLong y

-- of frames and their outcomes, one after the other
abbrev pub AreTold : {O : Type 0} → (O → Outcome → Option (List ℕ) → O → Type 0) → O → List (List ℕ) → List Outcome → O
    → Type 0
AreTold t x frames [] y = (frames ≡ []) × (y ≡ x)
AreTold {O = O} t x frames (o ∷ os) y = (here : List (List ℕ)) × (later : List (List ℕ)) × (between : O)
    × (frames ≡ here ++ later) × IsTold t x here o between × AreTold t between later os y

-- of the frame that a scanner has ready
abbrev pub TellsFrame : {O : Type 0} → (O → Outcome → Option (List ℕ) → O → Type 0) → Scan → O → O → Outcome → Type 0
TellsFrame t s x y o = (kind : Framing) (first : ℕ) (octets : List ℕ) (frames : List (List ℕ)) (rest : List ℕ)
    → Reads FRAME_MAX s kind first octets frames rest → (f : List ℕ) × Frame kind f rest × IsToldOf t x f o y

-- of what a scanner has ready: of nothing; of a bad count; or of a frame
abbrev pub TellsReady : {O : Type 0} → (O → Outcome → Option (List ℕ) → O → Type 0) → Scan → O → O → Option Outcome
    → Type 0
TellsReady t s x y None = y ≡ x
TellsReady t s x y (Some (BadCount at)) = t x (BadCount at) None y
TellsReady t s x y (Some New) = TellsFrame t s x y New
TellsReady t s x y (Some Held) = TellsFrame t s x y Held
TellsReady t s x y (Some (Refused fault)) = TellsFrame t s x y (Refused fault)
TellsReady t s x y (Some (RefusedLegacy offset)) = TellsFrame t s x y (RefusedLegacy offset)
TellsReady t s x y (Some TooLong) = TellsFrame t s x y TooLong

-- of the frames of a connection that octets completed
abbrev pub Hears : {O : Type 0} → (O → Outcome → Option (List ℕ) → O → Type 0) → Connection → List ℕ → List Outcome
    → Stream → List (List ℕ) → O → O → Type 0
Hears t new octets outcomes s handled x y = (fresh : List (List ℕ))
    × IsAt new (with_octets s octets) (handled ++ fresh) × AreTold t x fresh outcomes y

-- by what was accepted: where nothing was, of nothing
abbrev pub HearsBy : {O : Type 0} → (O → Outcome → Option (List ℕ) → O → Type 0) → Option (List ℕ) → Connection
    → Connection → List Outcome → Stream → List (List ℕ) → O → O → Type 0
HearsBy t None old new outcomes s handled x y = (new ≡ old) × (y ≡ x)
HearsBy t (Some octets) old new outcomes s handled x y = Hears t new octets outcomes s handled x y

-- of those whose outcomes a log grew by
abbrev pub HearsLog : {O : Type 0} → (O → Outcome → Option (List ℕ) → O → Type 0) → Connection → List ℕ → List Outcome
    → List Outcome → Stream → List (List ℕ) → O → O → Type 0
HearsLog t new octets log_old log_new s handled x y = (outcomes : List Outcome) × (log_new ≡ log_old ++ outcomes)
    × Hears t new octets outcomes s handled x y

-- octets came at an opening where so many frames waited, and so many wait now: it was told of the frames between them,
-- with their octets, outcome by outcome
pub record HearsOctets {O : Type 0} (t : O → Outcome → Option (List ℕ) → O → Type 0) (s : Stream) (octets : List ℕ)
    (waited waits : ℕ) (outcomes : List Outcome) (x y : O) : Type 0 where
  pub handled : List (List ℕ)
  pub waiting_before : List (List ℕ)
  pub fresh : List (List ℕ)
  pub waiting_now : List (List ℕ)
  pub before : IsFramesOf s (handled ++ waiting_before)
  pub count_before : length waiting_before ≡ waited
  pub now : IsFramesOf (with_octets s octets) (handled ++ (fresh ++ waiting_now))
  pub count_now : length waiting_now ≡ waits
  pub told : AreTold t x fresh outcomes y

-- octets of a number came: it was told of the frames whose outcomes the log grew by; of a number that is not open, of
-- nothing
abbrev pub HearsPiece : {O : Type 0} → (O → Outcome → Option (List ℕ) → O → Type 0) → Option Stream → List ℕ → ℕ → ℕ
    → List Outcome → List Outcome → O → O → Type 0
HearsPiece t None octets waited waits log_old log_new x y = (log_new ≡ log_old) × (y ≡ x)
HearsPiece t (Some s) octets waited waits log_old log_new x y = (outcomes : List Outcome)
    × (log_new ≡ log_old ++ outcomes) × HearsOctets t s octets waited waits outcomes x y
