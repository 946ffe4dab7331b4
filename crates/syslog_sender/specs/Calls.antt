-- Lists of calls of a sender, and all that they write.
use Rattle.std.specs.Prelude.{◌≡◌, ℕ, ◌⊎◌, List, [], ◌∷◌, ◌++◌, Option}
use Rattle.std.specs.List.{AllByRecursion}
use Rattle.std.specs.Io.KnownBytes.{Appends}
use Rattle.syslog_frame.specs.declared.framing.Framing.{Framing}
use Rattle.syslog_sender.specs.Senders.{SenderParts, IsEmpty, SetsMask}
use Rattle.syslog_sender.specs.Sent.{EventParts, Writes}

pub data Call : Type 0 where
  SetMask : ℕ → Call
  Prepare : EventParts → Call
  Send : Framing → EventParts → Call

-- ---- the definition

-- the octets that a list of calls writes: the frame of each event that is sent, in order, each under the mask that is
-- in force by then
abbrev pub Outputs : SenderParts → List Call → List ℕ → Type 0
Outputs s [] text = text ≡ []
Outputs s (SetMask mask ∷ calls) text = (new : ℕ) × SetsMask s.mask mask new
    × Outputs (record s { mask = new }) calls text
Outputs s (Prepare event ∷ calls) text = Outputs s calls text
Outputs s (Send framing event ∷ calls) text =
    (frame : List ℕ) × (more : List ℕ) × Writes s framing event frame × Outputs s calls more × (text ≡ frame ++ more)

-- ---- one call, and calls one after the other

-- what a call makes of a sender and of what a writer took
abbrev pub Step : SenderParts → Option (List ℕ) → Call → SenderParts → Option (List ℕ) → Type 0
Step s taken (SetMask mask) t then = SetsMask s.mask mask t.mask × (t ≡ record s { mask = t.mask }) × (then ≡ taken)
Step s taken (Prepare event) t then = (t ≡ s) × (then ≡ taken)
Step s taken (Send framing event) t then = (t ≡ s) × (frame : List ℕ) × Writes s framing event frame × Appends taken
    then frame

abbrev pub Steps : SenderParts → Option (List ℕ) → List Call → SenderParts → Option (List ℕ) → Type 0
Steps s taken [] t then = (t ≡ s) × (then ≡ taken)
Steps s taken (call ∷ calls) t then =
    (mid : SenderParts) × (some : Option (List ℕ)) × Step s taken call mid some × Steps mid some calls t then

-- ---- the mask in force

-- the masks that calls set, in order
abbrev pub masks_of : List Call → List ℕ
masks_of [] = []
masks_of (SetMask mask ∷ calls) = mask ∷ masks_of calls
masks_of (Prepare event ∷ calls) = masks_of calls
masks_of (Send framing event ∷ calls) = masks_of calls

-- of masks that were set, the last that holds a severity; else the one before all of them
abbrev pub IsInForce : ℕ → List ℕ → ℕ → Type 0
IsInForce first masks mask =
    (AllByRecursion IsEmpty masks × (mask ≡ first))
    ⊎ ((before : List ℕ) × (after : List ℕ) × (masks ≡ before ++ mask ∷ after) × ¬ (IsEmpty mask)
    × AllByRecursion IsEmpty after)
