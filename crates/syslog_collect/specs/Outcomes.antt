-- What becomes of a frame.
use Rattle.std.specs.Prelude.{◌≡◌, ℕ, ℤ, ◌<◌, ◌≤◌, ◌⊎◌, List, [], ◌∷◌, ◌++◌, length, Option, Some, None}
use Rattle.octet_language.specs.Language.{AnyOf}
use Rattle.syslog_frame.specs.Frames.{Frame}
use Rattle.syslog_frame.specs.Reads.{Reads}
use Rattle.syslog_frame.specs.Scan.{Scan, HasBadCount, HasFrame, IsFailed, IsReading}
use Rattle.syslog_frame.specs.declared.framing.Framing.{Framing}
use Rattle.syslog_value.specs.Parts.{Parts}
use Rattle.syslog_reading.specs.WellFormed.{WellFormed}
use Rattle.syslog_frame.specs.declared.limits.TheConstants.{FRAME_MAX}
use Rattle.archive_text.specs.Entries.{Entry, IsEntryOf}
use Rattle.archive_text.specs.declared.limits.TheConstants.{ENTRY_MAX}
use Rattle.archive_text.specs.Stores.{AddsRecord}
use Rattle.archive_text.specs.declared.store.Added.{Added}
use Rattle.archive_text.specs.declared.store.Added.TheVariants as added
use Rattle.syslog_legacy.specs.FrameReadings.{HasFault, IsLegacy, IsNotUtf8At, IsReadAs, octets_read}
use Rattle.syslog_legacy.specs.declared.frame_reading.FrameReading.{FrameReading}
use Rattle.syslog_collect.specs.declared.outcome.Outcome.{Outcome}
use Rattle.syslog_collect.specs.declared.outcome.Outcome.TheVariants.{New, Held, Refused, RefusedLegacy, TooLong}
use Rattle.syslog_collect.specs.declared.outcome.Outcome.TheVariants.{BadCount}

-- the record as which the frame is read is added so
abbrev pub AddsFrame : FrameReading → List ℕ → List Entry → List Entry → Added → Type 0
AddsFrame way f old new how = (length f ≤ FRAME_MAX) × ((r : Parts ℤ) × IsReadAs way r f × AddsRecord r old new how)

-- what becomes of a frame where these entries are held, and which are held then
abbrev pub IsOutcome : FrameReading → List Entry → List Entry → List ℕ → Outcome → Type 0
IsOutcome way old new f New = AddsFrame way f old new added.New
IsOutcome way old new f Held = AddsFrame way f old new added.Held
IsOutcome way old new f (Refused fault) =
    (length f ≤ FRAME_MAX) × ¬ (IsLegacy way f) × HasFault way f fault × ¬ (AnyOf WellFormed (octets_read way f))
    × (new ≡ old)
IsOutcome way old new f (RefusedLegacy offset) = (length f ≤ FRAME_MAX) × IsNotUtf8At way offset f × (new ≡ old)
IsOutcome way old new f TooLong = (FRAME_MAX < length f) × (new ≡ old)
IsOutcome way old new f (BadCount at) = ⊥

-- the octets are a record, and it has an entry
abbrev pub HasEntry : List ℕ → Type 0
HasEntry b = (r : Parts ℤ) × (e : Entry) × WellFormed r b × IsEntryOf r e

-- the record has an entry that fits an archive
abbrev pub HasFittingEntry : Parts ℤ → Type 0
HasFittingEntry r = (e : Entry) × IsEntryOf r e × (length e.octets ≤ ENTRY_MAX)

-- the outcome of a frame whose record was added so
abbrev pub added_outcome : Added → Outcome
added_outcome added.New = New
added_outcome added.Held = Held

-- the frame is within the limit, and is read as a record
abbrev pub IsRecordFrame : FrameReading → List ℕ → Type 0
IsRecordFrame way f = (length f ≤ FRAME_MAX) × ((r : Parts ℤ) × IsReadAs way r f)

-- a scanner has a frame ready that is read as a record
abbrev pub HasRecord : FrameReading → Scan → Type 0
HasRecord way s = (kind : Framing) (first : ℕ) (octets : List ℕ) (frames : List (List ℕ)) (rest : List ℕ)
    → Reads FRAME_MAX s kind first octets frames rest → (f : List ℕ) × Frame kind f rest × IsRecordFrame way f

-- a scanner has a frame ready, which becomes this
abbrev pub HandlesFrame : FrameReading → Scan → List Entry → List Entry → Outcome → Type 0
HandlesFrame way s old new o = HasFrame s
    × ((kind : Framing) (first : ℕ) (octets : List ℕ) (frames : List (List ℕ)) (rest : List ℕ)
    → Reads FRAME_MAX s kind first octets frames rest → (f : List ℕ) × Frame kind f rest × IsOutcome way old new f o)

-- what becomes of what a scanner has ready: nothing, where nothing is; a bad count; or a frame
abbrev pub HandlesReady : FrameReading → Scan → List Entry → List Entry → Option Outcome → Type 0
HandlesReady way s old new None = (IsReading s ⊎ IsFailed s) × (new ≡ old)
HandlesReady way s old new (Some (BadCount at)) = HasBadCount s × (at ≡ s.position) × (new ≡ old)
HandlesReady way s old new (Some New) = HandlesFrame way s old new New
HandlesReady way s old new (Some Held) = HandlesFrame way s old new Held
HandlesReady way s old new (Some (Refused fault)) = HandlesFrame way s old new (Refused fault)
HandlesReady way s old new (Some (RefusedLegacy offset)) = HandlesFrame way s old new (RefusedLegacy offset)
HandlesReady way s old new (Some TooLong) = HandlesFrame way s old new TooLong

-- what is reported of the frames that were handled: none; one; or a bad count, and no frame
abbrev pub IsReported : FrameReading → List Entry → List Entry → List (List ℕ) → Outcome → Type 0
IsReported way old new frames (BadCount at) = (frames ≡ []) × (new ≡ old)
IsReported way old new frames New = (f : List ℕ) × (frames ≡ f ∷ []) × IsOutcome way old new f New
IsReported way old new frames Held = (f : List ℕ) × (frames ≡ f ∷ []) × IsOutcome way old new f Held
IsReported way old new frames (Refused fault) =
    (f : List ℕ) × (frames ≡ f ∷ []) × IsOutcome way old new f (Refused fault)
IsReported way old new frames (RefusedLegacy offset) =
    (f : List ℕ) × (frames ≡ f ∷ []) × IsOutcome way old new f (RefusedLegacy offset)
IsReported way old new frames TooLong = (f : List ℕ) × (frames ≡ f ∷ []) × IsOutcome way old new f TooLong

-- one outcome after the other, each over the entries that the one before it left
abbrev pub AreReported : FrameReading → List Entry → List Entry → List (List ℕ) → List Outcome → Type 0
AreReported way old new frames [] = (frames ≡ []) × (new ≡ old)
AreReported way old new frames (o ∷ os) = (here : List (List ℕ)) × (later : List (List ℕ)) × (between : List Entry)
    × (frames ≡ here ++ later) × IsReported way old between here o × AreReported way between new later os

-- as a list
abbrev pub outcomes_of : Option Outcome → List Outcome
outcomes_of None = []
outcomes_of (Some o) = o ∷ []
