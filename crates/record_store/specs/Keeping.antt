-- A segment is kept beside what is there already.
use Rattle.std.specs.Prelude.{◌≡◌, ◌≢◌, ◌⊎◌, ℕ, ◌^◌, ◌<◌, ◌≤◌, List, None, Some, drop, length, take, false}
use Rattle.disk.specs.Calls.{IsUnchanged}
use Rattle.disk.specs.Memory.{shown_now}
use Rattle.disk.specs.States.{State}
use Rattle.archive_text.specs.Entries.{Entry}
use Rattle.record_store.specs.Causes.{IsFileCause}
use Rattle.record_store.specs.Names.{Counts, IsDayName}
use Rattle.record_store.specs.Puts.{KeepsOrSettlesApart, LeavesOldOr, ShowsOldOr}
use Rattle.record_store.specs.Segments.{Drafts, IsSegmentOf, segment_name}
use Rattle.record_store.specs.Stores.{AreAmong}
use Rattle.record_store.specs.declared.keeping.KeepFault.{KeepFault}
use Rattle.record_store.specs.declared.keeping.KeepFault.TheVariants.{Disk, Day, Differs}
use Rattle.record_store.specs.declared.segment.SegmentDraft.{SegmentDraft}

-- two texts have these n octets in common from an offset on, n of which are none only where both end
pub record AgreeFrom (a b : List ℕ) (at n : ℕ) : Type 0 where
  pub octets : take n (drop at a) ≡ take n (drop at b)
  pub within_a : n ≤ length (drop at a)
  pub within_b : n ≤ length (drop at b)
  pub ends : n ≡ 0 → (length a ≤ at) × (length b ≤ at)

-- the same of what a read shows under two names, once no sync has failed
abbrev pub AgreeAt : State → List ℕ → List ℕ → ℕ → ℕ → Type 0
AgreeAt state one other at n = state.lost ≡ false
    → (a : List ℕ) × (b : List ℕ) × (shown_now (state.entries one) ≡ Some a)
    × (shown_now (state.entries other) ≡ Some b) × AgreeFrom a b at n

-- a read shows the same under two names
abbrev pub AreSame : State → List ℕ → List ℕ → Type 0
AreSame state one other = state.lost ≡ false → shown_now (state.entries one) ≡ shown_now (state.entries other)

-- a read shows two files that differ, once no sync has failed
abbrev pub DifferAt : State → List ℕ → List ℕ → Type 0
DifferAt state one other = state.lost ≡ false
    → (a : List ℕ) × (b : List ℕ) × (shown_now (state.entries one) ≡ Some a)
    × (shown_now (state.entries other) ≡ Some b) × (a ≢ b)

-- a read shows a file under the other name, of other octets unless the first has 2 ^ 62, once no sync has failed
abbrev pub AreOther : State → List ℕ → List ℕ → Type 0
AreOther state one other = state.lost ≡ false
    → (b : List ℕ) × (shown_now (state.entries other) ≡ Some b)
    × ((a : List ℕ) → shown_now (state.entries one) ≡ Some a → length a < 2 ^ 62 → b ≢ a)

-- under the name a read shows no file, or this text
abbrev pub ShowsAtMost : State → List ℕ → List ℕ → Type 0
ShowsAtMost state name text =
    (shown_now (state.entries name) ≡ None) ⊎ (shown_now (state.entries name) ≡ Some text)

-- a text is put under a name that had no other
pub record Puts (old new : State) (draft name text : List ℕ) : Type 0 where
  pub shown : ShowsAtMost old name text
  pub leaves : LeavesOldOr old new name text
  pub shows : ShowsOldOr old new name text
  pub others : KeepsOrSettlesApart old new draft name

-- that, or nothing is done
abbrev pub Brings : State → State → List ℕ → List ℕ → List ℕ → Type 0
Brings old new draft name text = IsUnchanged old new ⊎ Puts old new draft name text

-- what was drafted is the archive of these entries of a day, which were received, and the draft's name does not count
pub record IsDraftOf (draft : SegmentDraft) (state : State) (day : List ℕ) (es received : List Entry) : Type 0 where
  pub text : List ℕ
  pub drafts : Drafts draft state text
  pub is : IsSegmentOf day text es
  pub apart : ¬ (Counts draft.name)
  pub among : AreAmong es received

-- a read shows a file of other octets than the draft's text under the name of its segment
pub record IsTaken (draft : SegmentDraft) (state : State) (day : List ℕ) : Type 0 where
  pub text : List ℕ
  pub drafts : Drafts draft state text
  pub octets : List ℕ
  pub shown : shown_now (state.entries (segment_name day text)) ≡ Some octets
  pub other : octets ≢ text

-- a name is that of the segment of a text, and a read shows a file there, of other octets unless the text has 2 ^ 62
pub record ShowsOther (state : State) (day text name : List ℕ) : Type 0 where
  pub named : name ≡ segment_name day text
  pub octets : List ℕ
  pub shown : shown_now (state.entries name) ≡ Some octets
  pub other : length text < 2 ^ 62 → octets ≢ text

-- what has to be so where a segment is not kept: a file is told as another only if it is, and then nothing has changed
abbrev pub IsKeepCause : Type 0 → Type 0 → State → State → SegmentDraft → List ℕ → KeepFault → Type 0
IsKeepCause tells failed old new draft day (Disk fault) =
    IsFileCause failed (tells → old.lost ≡ false → shown_now (old.entries draft.name) ≡ None) (¬ tells) fault
IsKeepCause tells failed old new draft day Day = ¬ (IsDayName day)
IsKeepCause tells failed old new draft day (Differs name) =
    tells → IsUnchanged old new × ((text : List ℕ) → Drafts draft old text → ShowsOther old day text name)
