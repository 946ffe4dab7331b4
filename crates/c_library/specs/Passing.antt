-- Frames at the front of a piece that are records.
use Rattle.std.specs.Prelude.{◌≡◌, ℕ, ℤ, pos, negsuc, ◌+◌, List, ◌++◌, ◌⊎◌, length}
use Rattle.std.specs.List.{AllByRecursion, flat_map}
use Rattle.octet_language.specs.Language.{NoPrefix}
use Rattle.syslog_frame.specs.Frames.{CanCarry, Whole, framed}
use Rattle.syslog_frame.specs.declared.framing.Framing.{Framing}
use Rattle.c_library.specs.Faults.{IsRead}
use Rattle.c_library.specs.Frames.{framing_number}

-- a frame that is a record, and is read
abbrev pub IsGood : Framing → List ℕ → Type 0
IsGood kind f = CanCarry kind f × IsRead f

-- a frame comes first that is a record, and so the piece goes on
abbrev pub BeginsGood : Framing → List ℕ → List ℕ → Type 0
BeginsGood kind piece behind = (f : List ℕ) × IsGood kind f × (piece ≡ framed kind f ++ behind)

-- no whole frame comes first, or one that is no record
abbrev pub BeginsNoGood : Framing → List ℕ → Type 0
BeginsNoGood kind piece =
    NoPrefix (Whole kind) piece
    ⊎ ((f : List ℕ) × (behind : List ℕ) × CanCarry kind f × ¬ (IsRead f) × (piece ≡ framed kind f ++ behind))

-- so many frames, which take so many octets, are records, and the next one is none
pub record Passes (kind : Framing) (piece : List ℕ) (taken count : ℕ) : Type 0 where
  pub records : List (List ℕ)
  pub rest : List ℕ
  pub parts : piece ≡ flat_map (framed kind) records ++ rest
  pub taken_is : taken + length rest ≡ length piece
  pub each : AllByRecursion (IsGood kind) records
  pub count_is : count ≡ length records
  pub next : BeginsNoGood kind rest

-- the framing is one, and its frames are passed over; or it is none, the answer is -2, and nothing changes
abbrev pub PassesOver : ℤ → List ℕ → ℕ → ℕ → ℤ → Type 0
PassesOver number piece old new answer =
    ((kind : Framing) × (number ≡ framing_number kind) × (taken : ℕ) × Passes kind piece taken new × (answer ≡ pos taken))
    ⊎ (((kind : Framing) → ¬ (number ≡ framing_number kind)) × (answer ≡ negsuc 1) × (new ≡ old))
