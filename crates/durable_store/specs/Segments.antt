-- Segments, as they are written.
use Rattle.std.specs.Prelude.{◌≡◌, ◌⊎◌, ℕ, Bool, IsTrue, codes, false, List, [], ◌∷◌, ◌++◌, length}
use Rattle.std.specs.List.{AllByRecursion}
use Rattle.disk.specs.States.{State}
use Rattle.journal.specs.Journals.{IsSound, KeepsOthers}
use Rattle.archive_text.specs.Periods.{IsIn}
use Rattle.archive_text.specs.declared.period.Period.TheVariants.{Day}
use Rattle.archive_text.specs.Entries.{Entry}
use Rattle.archive_text.specs.Text.{IsArchive, text_of}
use Rattle.archive_text.specs.declared.limits.TheConstants.{ENTRY_MAX}
use Rattle.record_store.specs.Crashes.{HeldApart, Keeps}
use Rattle.record_store.specs.Holdings.{IsOfPeriod}
use Rattle.record_store.specs.Names.{draft_name}
use Rattle.record_store.specs.Segments.{Drafts, OthersSettle}
use Rattle.record_store.specs.Stores.{AreAmong}
use Rattle.record_store.specs.declared.segment.SegmentDraft.{SegmentDraft}
use Rattle.durable_store.specs.Shares.{AreDays, GrowsBy, HasShare, IsDay, Leaves}
use Rattle.durable_store.specs.declared.draft.DraftName.{DraftName}
use Rattle.durable_store.specs.declared.draft.DraftName.TheVariants.{Checkpoint, Addition}

-- the octets of a draft's name
abbrev pub octets_of : DraftName → List ℕ
octets_of Checkpoint = draft_name
octets_of Addition = codes "add.archive"

-- Whatever a crash leaves of a folder, it keeps what it kept, and gains no entries but these: segments hold what they
-- held, and each other file, such as a journal, is as it was, but that it may be on the disk now, and but for a draft.
pub record GainsOnly (old new : State) (draft : List ℕ) (es : List Entry) : Type 0 where
  pub keeps : (committed received : List Entry) → AreAmong es received → Keeps old committed received
      → Keeps new committed received
  pub apart : OthersSettle old new draft
  pub still : (others : List Entry) → HeldApart old others → HeldApart new others

-- a text was written: its front into a draft, and what is held back
pub record IsWritten (draft : SegmentDraft) (state : State) (held text : List ℕ) : Type 0 where
  pub front : List ℕ
  pub drafts : Drafts draft state front
  pub text_is : text ≡ front ++ held

-- the file of one name may change, and no sync fails
pub record KeepsAside (old new : State) (name : List ℕ) : Type 0 where
  pub others : KeepsOthers old new name
  pub lost : new.lost ≡ old.lost

-- a text is put into a draft behind what was, or held back
abbrev pub Puts : Type 0 → SegmentDraft → State → List ℕ → SegmentDraft → State → List ℕ → List ℕ → Type 0
Puts tells before old held after new held_then more = tells → (text : List ℕ) → IsWritten before old held text
    → IsWritten after new held_then (text ++ more)

-- of the entries behind a first one these, up to the rest, are put with it, all of the day if it is, and no more
pub record PutsEntries (tells : Type 0) (before : SegmentDraft) (old : State) (held : List ℕ) (after : SegmentDraft)
    (new : State) (held_then day : List ℕ) (first : Entry) (behind rest : List Entry) : Type 0 where
  pub front : List Entry
  pub parts : behind ≡ front ++ rest
  pub days : AllByRecursion (IsIn Day day) front
  pub ends : Leaves day rest
  pub puts : Puts tells before old held after new held_then (text_of (first ∷ front))

-- ---- a day

-- the same into a draft, with nothing held back
pub record PutsDay (tells : Type 0) (before : SegmentDraft) (old : State) (after : SegmentDraft) (new : State)
    (day : List ℕ) (first : Entry) (behind rest : List Entry) : Type 0 where
  pub front : List Entry
  pub parts : behind ≡ front ++ rest
  pub days : AllByRecursion (IsIn Day day) front
  pub ends : Leaves day rest
  pub drafts : tells → Drafts before old [] → Drafts after new (text_of (first ∷ front))

-- a draft of this name has the archive of these entries of a period, which are some of those, and no other file has
-- changed
pub record DraftsOf (tells : Type 0) (old new : State) (name : List ℕ) (draft : SegmentDraft) (period : List ℕ)
    (es those : List Entry) : Type 0 where
  pub named : draft.name ≡ name
  pub aside : tells → KeepsAside old new name
  pub drafts : tells → IsSound old → Drafts draft new (text_of es)
  pub archive : IsArchive ENTRY_MAX those → IsArchive ENTRY_MAX es
  pub among : AreAmong es those
  pub days : AllByRecursion (IsOfPeriod period) es

-- so it is of the first of these entries, up to the rest, which are those of a day
pub record DraftsDay (tells : Type 0) (old new : State) (name : List ℕ) (draft : SegmentDraft) (day : List ℕ)
    (these rest : List Entry) : Type 0 where
  pub run : List Entry
  pub is : IsDay these run rest
  pub drafts : DraftsOf tells old new name draft day run these

-- if these entries are an archive, some of them are held by segments
abbrev pub HoldsApart : Type 0 → State → State → List Entry → List Entry → Type 0
HoldsApart tells old new these es = tells → IsSound old → IsArchive ENTRY_MAX these → HeldApart new es

-- if they are, no sync fails, and nothing but they comes
abbrev pub StaysSound : Type 0 → State → State → List Entry → Type 0
StaysSound tells old new these = tells → IsSound old → IsArchive ENTRY_MAX these → IsSound new

abbrev pub GainsAmong : Type 0 → State → State → List ℕ → List Entry → Type 0
GainsAmong tells old new draft these = tells → IsSound old → IsArchive ENTRY_MAX these → GainsOnly old new draft these

-- the first entries of a day, up to the rest, are held by segments
pub record WritesDay (tells : Type 0) (old new : State) (these rest : List Entry) : Type 0 where
  pub run : List Entry
  pub is : IsDay these run rest
  pub held : HoldsApart tells old new these run
  pub sound : StaysSound tells old new these

-- the same, if they have their share of the octets, of which it is told
pub record WritesShare (tells : Type 0) (total : ℕ) (old new : State) (wrote : Bool) (these rest : List Entry) :
    Type 0 where
  pub run : List Entry
  pub is : IsDay these run rest
  pub share : HasShare total run ⊎ (wrote ≡ false)
  pub held : HasShare total run → HoldsApart tells old new these run
  pub sound : StaysSound tells old new these
  pub grows : tells → IsSound old → GrowsBy total (length (text_of run)) old new

-- so it is of each day up to the rest, and one was skipped or all have their share
pub record WritesDays (tells : Type 0) (total : ℕ) (old new : State) (skipped : Bool) (all rest : List Entry) :
    Type 0 where
  pub runs : List (List Entry)
  pub are : AreDays all runs rest
  pub shares : IsTrue skipped ⊎ AllByRecursion (HasShare total) runs
  pub held : tells → IsSound old → AllByRecursion (λ run. HasShare total run → HeldApart new run) runs
  pub sound : tells → IsSound old → IsSound new

-- ---- the other days

-- the first entries of a day, up to the rest, are put behind what was, unless they have their share
pub record MixesDay (tells : Type 0) (total : ℕ) (before : SegmentDraft) (old : State) (held : List ℕ)
    (after : SegmentDraft) (new : State) (held_then : List ℕ) (these rest : List Entry) : Type 0 where
  pub run : List Entry
  pub is : IsDay these run rest
  pub mixed : List Entry
  pub which : (HasShare total run × (mixed ≡ [])) ⊎ (mixed ≡ run)
  pub puts : Puts tells before old held after new held_then (text_of mixed)

-- each day has its share, or its entries are among the mixed ones
abbrev pub Mixes : ℕ → List (List Entry) → List Entry → Type 0
Mixes total runs mixed = AllByRecursion (λ run. HasShare total run ⊎ AreAmong run mixed) runs

-- of all days those that do not have their share are put into a draft
pub record PutsMixed (tells : Type 0) (total : ℕ) (before : SegmentDraft) (old : State) (after : SegmentDraft)
    (new : State) (all : List Entry) : Type 0 where
  pub runs : List (List Entry)
  pub are : AreDays all runs []
  pub mixed : List Entry
  pub mixes : Mixes total runs mixed
  pub archive : IsArchive ENTRY_MAX all → IsArchive ENTRY_MAX mixed
  pub among : AreAmong mixed all
  pub drafts : tells → Drafts before old [] → Drafts after new (text_of mixed)

-- they are those of a draft
pub record DraftsMixed (tells : Type 0) (total : ℕ) (old new : State) (name : List ℕ) (draft : SegmentDraft)
    (all : List Entry) : Type 0 where
  pub runs : List (List Entry)
  pub are : AreDays all runs []
  pub mixed : List Entry
  pub mixes : Mixes total runs mixed
  pub drafts : DraftsOf tells old new name draft (codes "mixed") mixed all

-- and are held by segments
pub record WritesMixed (tells : Type 0) (total : ℕ) (old new : State) (all : List Entry) : Type 0 where
  pub runs : List (List Entry)
  pub are : AreDays all runs []
  pub mixed : List Entry
  pub mixes : Mixes total runs mixed
  pub held : tells → IsSound old → HeldApart new mixed
  pub sound : tells → IsSound old → IsSound new
