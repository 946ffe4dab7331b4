-- Segments, as they are written.
use Rattle.std.specs.Prelude.{◌≡◌, ◌≢◌, ◌⊎◌, ℕ, ◌^◌, ◌<◌, ◌≤◌, List, ◌∷◌, ◌++◌, Option, Some, codes, false, length}
use Rattle.std.specs.List.{AllByRecursion}
use Rattle.disk.specs.Memory.{shown_now}
use Rattle.disk.specs.States.{NameMayLeave, State, kept}
use Rattle.hex.specs.Hex.{encode_lower}
use Rattle.sha2.specs.Hashers.{Holds256}
use Rattle.sha2.specs.Sha256.{sha256}
use Rattle.archive_text.specs.Entries.{Entry, Has}
use Rattle.archive_text.specs.Text.{IsArchive, text_of}
use Rattle.archive_text.specs.declared.limits.TheConstants.{ENTRY_MAX}
use Rattle.record_store.specs.Causes.{IsDraftCause}
use Rattle.record_store.specs.Holdings.{HeldAt, IsOfPeriod}
use Rattle.record_store.specs.Names.{Counts, IsDayName, IsSegment, journal_name}
use Rattle.record_store.specs.Shown.{journal_shown}
use Rattle.record_store.specs.Stores.{AreAmong}
use Rattle.record_store.specs.declared.segment.SegmentDraft.{SegmentDraft}
use Rattle.record_store.specs.declared.segment.SegmentFault.{SegmentFault}
use Rattle.record_store.specs.declared.segment.SegmentFault.TheVariants.{Disk, Day as No_day}

-- DAY.HEX.archive, HEX the SHA-256 of the text
abbrev pub segment_name : List ℕ → List ℕ → List ℕ
segment_name day text = day ++ 46 ∷ encode_lower (sha256 text) ++ codes ".archive"

-- the name of the draft
abbrev pub draft_of : SegmentDraft → List ℕ
draft_of draft = draft.name

-- the draft's file has this text so far, and no sync has failed
pub record Drafts (draft : SegmentDraft) (state : State) (text : List ℕ) : Type 0 where
  pub shown : shown_now (state.entries draft.name) ≡ Some text
  pub sound : state.lost ≡ false
  pub hashed : Holds256 draft.hasher text

-- a text is the archive of these entries of a period
pub record IsSegmentOf (period text : List ℕ) (es : List Entry) : Type 0 where
  pub archive : IsArchive ENTRY_MAX es
  pub text_is : text ≡ text_of es
  pub days : AllByRecursion (IsOfPeriod period) es

-- a text is the archive of some entries of a day
abbrev pub IsArchiveOfDay : List ℕ → List ℕ → Type 0
IsArchiveOfDay day text = (es : List Entry) × IsSegmentOf day text es

-- What a crash may leave under a name holds no other entries than these: so it is where a file of the name has the octets
-- that its name says, unless SHA-256 collides, and where there is none.
abbrev pub HoldsNoMore : State → List ℕ → List Entry → Type 0
HoldsNoMore state name es = (octets : Option (List ℕ)) → NameMayLeave (state.entries name) octets → (e : Entry)
    → HeldAt name octets e → Has es e

-- what a read shows under a name holds no other entries than these
abbrev pub ShowsNoMore : State → List ℕ → List Entry → Type 0
ShowsNoMore state name es = (e : Entry) → HeldAt name (shown_now (state.entries name)) e → Has es e

-- what was drafted is the archive of these entries of a day, which were received, and the draft's name does not count
pub record IsOfSegment (draft : SegmentDraft) (state : State) (day : List ℕ) (es received : List Entry) : Type 0 where
  pub text : List ℕ
  pub drafts : Drafts draft state text
  pub is : IsSegmentOf day text es
  pub apart : ¬ (Counts draft.name)
  pub no_more : HoldsNoMore state (segment_name day text) es
  pub among : AreAmong es received

-- the journals are as they were, but that what is there may be on the disk now
abbrev pub JournalsSettle : State → State → Type 0
JournalsSettle old new = (n : ℕ) → n < 2 ^ 64
    → (new.entries (journal_name n) ≡ old.entries (journal_name n))
    ⊎ (new.entries (journal_name n) ≡ kept (old.entries (journal_name n)))

-- each name but that of a draft is so, unless it is a segment's
abbrev pub OthersSettle : State → State → List ℕ → Type 0
OthersSettle old new draft = (other : List ℕ) → other ≢ draft → ((period : List ℕ) → ¬ (IsSegment period other))
    → (new.entries other ≡ old.entries other) ⊎ (new.entries other ≡ kept (old.entries other))

-- what has to be so where a segment is not finished
abbrev pub IsSegmentCause : Type 0 → Type 0 → State → List ℕ → List ℕ → SegmentFault → Type 0
IsSegmentCause tells failed state draft day (Disk fault) = IsDraftCause tells failed state draft fault
IsSegmentCause tells failed state draft day No_day = ¬ (IsDayName day)

-- a read shows each segment that it showed, with the same octets
abbrev pub SegmentsStay : State → State → Type 0
SegmentsStay old new = (day name octets : List ℕ) → IsSegment day name
    → shown_now (old.entries name) ≡ Some octets → shown_now (new.entries name) ≡ Some octets

-- a read shows each segment that it showed, with the same octets, and beside these at most so many others
pub record SegmentsGrow (most : ℕ) (old new : State) : Type 0 where
  pub stay : SegmentsStay old new
  pub names : List (List ℕ)
  pub few : length names ≤ most
  pub others : (period name : List ℕ) → IsSegment period name → AllByRecursion (λ n. name ≢ n) names
      → shown_now (new.entries name) ≡ shown_now (old.entries name)

-- the same, and the journals are shown as they were
pub record GrowsBeside (most : ℕ) (old new : State) : Type 0 where
  pub grow : SegmentsGrow most old new
  pub journals : (n : ℕ) → n < 2 ^ 64 → journal_shown new n ≡ journal_shown old n
