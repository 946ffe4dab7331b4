-- What it is to remove what is expired from a store.
use Rattle.std.specs.Prelude.{◌≡◌, ◌≢◌, ◌⊎◌, ◌↔◌, ℕ, List, Option, None, Some, IsSome, codes}
use Rattle.disk.specs.Files.{settled}
use Rattle.disk.specs.States.{Files, NameMayLeave, State, kept}
use Rattle.journal.specs.Journals.{IsOnDisk, Shows}
use Rattle.archive_text.specs.Entries.{Entry, Has}
use Rattle.archive_text.specs.Text.{text_of}
use Rattle.archive_sets.specs.Selections.{IsSelection}
use Rattle.record_store.specs.Crashes.{Keeps}
use Rattle.record_store.specs.Holdings.{HeldAt}
use Rattle.record_store.specs.Names.{IsSegment}
use Rattle.record_store.specs.Puts.{KeepsOrSettlesApart, ShowsOldOr}
use Rattle.record_store.specs.Segments.{ShowsNoMore, segment_name}
use Rattle.store_reading.specs.Days.{IsPeriodText}
use Rattle.store_upkeep.specs.Compaction.{KeepsSet, shown}
use Rattle.store_expiry.specs.Expired.{IsExpired}
use Rattle.store_expiry.specs.Surveys.{HasExpired, IsExpiredAt, IsLeftOver, IsNoneOrWhole, IsWholeOrUnexpired}
use Rattle.store_expiry.specs.declared.expired.Expired.{Expired}

-- what the rest of a segment is called until all of it is on the disk
abbrev pub expire_draft : List ℕ
expire_draft = codes "expire.archive"

-- a segment has the entry
pub record InSegments (files : Files) (e : Entry) : Type 0 where
  pub name : List ℕ
  pub period : List ℕ
  pub segment : IsSegment period name
  pub at : HeldAt name (files name) e

-- the file under a name is no segment that has an expired entry
abbrev pub IsClear : Expired → Files → List ℕ → Type 0
IsClear x files name =
    (period : List ℕ) (e : Entry) → IsSegment period name → HeldAt name (files name) e → ¬ (IsExpired x e)

-- no segment has an expired entry
abbrev pub AreClear : Expired → Files → Type 0
AreClear x files = (name : List ℕ) → IsClear x files name

-- some of these entries, none of them expired
abbrev pub AreLeft : Expired → List Entry → List Entry → Type 0
AreLeft x all left = (e : Entry) → Has left e → Has all e × (¬ (IsExpired x e))

-- the files that are no segments are the same, but for the draft
abbrev pub KeepsOtherFiles : State → State → Type 0
KeepsOtherFiles old new =
    (name : List ℕ) → name ≢ expire_draft → ((period : List ℕ) → IsPeriodText period → ¬ (IsSegment period name))
    → shown new name ≡ shown old name

-- the file under a name is the segment of what is left of a whole segment
pub record IsRestAt (x : Expired) (old new : Files) (name : List ℕ) : Type 0 where
  pub period : List ℕ
  pub left : List Entry
  pub over : IsLeftOver x old period left
  pub segment : IsSegment period name
  pub named : name ≡ segment_name period (text_of left)
  pub file : new name ≡ Some (text_of left)

-- The file under a name is the same; or it was a whole segment that had something expired, and is gone; or there was
-- none, or a whole segment, and there is what is left of a whole segment. So a damaged segment is the same.
abbrev pub ChangesAt : Expired → Files → Files → List ℕ → Type 0
ChangesAt x old new name =
    (new name ≡ old name)
    ⊎ ((IsExpiredAt x old name × (new name ≡ None)) ⊎ (IsNoneOrWhole old name × IsRestAt x old new name))

-- What a disk holds, without some of what is expired. Whatever a crash leaves holds all that is committed and not
-- expired, and nothing that was not received, if it did before; the segments that a read shows have what they had
-- and is not expired, and nothing else; each file but the draft is as it may become; and those that are no segments
-- are the same.
pub record Sheds (x : Expired) (old new : State) : Type 0 where
  pub kept : (committed received left : List Entry) → AreLeft x committed left → Keeps old committed received
      → Keeps new left received
  pub stays : (e : Entry) → ¬ (IsExpired x e) → InSegments (shown old) e → InSegments (shown new) e
  pub no_more : (e : Entry) → InSegments (shown new) e → InSegments (shown old) e
  pub changes : (name : List ℕ) → name ≢ expire_draft → ChangesAt x (shown old) (shown new) name
  pub others : KeepsOtherFiles old new

-- each segment is whole, or no entry of its period is expired
abbrev pub AreWholeOrUnexpired : Expired → Files → Type 0
AreWholeOrUnexpired x files = (name : List ℕ) → IsWholeOrUnexpired x files name

-- no crash leaves a file under a name
abbrev pub IsGone : State → List ℕ → Type 0
IsGone state name = (octets : Option (List ℕ)) → NameMayLeave (state.entries name) octets → octets ≡ None

-- what a read showed and shows no more is gone on the disk, too
abbrev pub RemovedAreGone : State → State → Type 0
RemovedAreGone old new = (name : List ℕ) → IsSome (shown old name) → shown new name ≡ None → IsGone new name

-- each name is as it was, or is on the disk now
abbrev pub KeepsOrSettles : State → State → Type 0
KeepsOrSettles old new = (name : List ℕ)
    → (new.entries name ≡ old.entries name) ⊎ (new.entries name ≡ kept (old.entries name))

-- the file under a name is the same, or it had nothing that is expired and there is one
abbrev pub StaysAt : Expired → State → State → List ℕ → Type 0
StaysAt x old new name =
    (shown new name ≡ shown old name) ⊎ (IsClear x (shown old) name × IsSome (shown new name))

-- so it is under each name of a segment
abbrev pub NoneIsGone : Expired → State → State → Type 0
NoneIsGone x old new = (period name : List ℕ) → IsSegment period name → StaysAt x old new name

-- another segment is on the disk, and has the entry
pub record IsBeside (state : State) (name : List ℕ) (e : Entry) : Type 0 where
  pub other : List ℕ
  pub apart : other ≢ name
  pub period : List ℕ
  pub segment : IsSegment period other
  pub text : List ℕ
  pub on_disk : IsOnDisk state other text
  pub at : HeldAt other (Some text) e

-- all that a whole segment has is expired, and something is, or on the disk beside it
pub record IsSpared (x : Expired) (state : State) (name : List ℕ) : Type 0 where
  pub period : List ℕ
  pub dated : IsPeriodText period
  pub entries : List Entry
  pub whole : HasExpired x (shown state) name period entries
  pub segment : IsSegment period name
  pub beside : (e : Entry) → HeldAt name (shown state name) e → ¬ (IsExpired x e) → IsBeside state name e

-- a draft is on the disk with what is not expired of some entries
pub record IsRestOf (x : Expired) (state : State) (draft : List ℕ) (es : List Entry) : Type 0 where
  pub left : List Entry
  pub draft_is : Shows state draft (settled (text_of left))
  pub selection : IsSelection (λ e. ¬ (IsExpired x e)) es left

-- entries may be put under the name of their segment: a read shows no other ones there, and no damaged segment
pub record IsFree (state : State) (name period : List ℕ) (left : List Entry) : Type 0 where
  pub segment : IsSegment period name
  pub named : name ≡ segment_name period (text_of left)
  pub no_more : ShowsNoMore state name left
  pub whole : IsNoneOrWhole (shown state) name

-- and so may those of the draft
pub record IsReadyRest (x : Expired) (state : State) (draft name period : List ℕ) (es : List Entry) : Type 0 where
  pub rest : IsRestOf x state draft es
  pub is_draft : draft ≡ expire_draft
  pub free : IsFree state name period rest.left

-- a text was given its name, or not yet
pub record Places (old new : State) (draft name text : List ℕ) : Type 0 where
  pub set : KeepsSet old new
  pub shows : ShowsOldOr old new name text
  pub others : KeepsOrSettlesApart old new draft name
