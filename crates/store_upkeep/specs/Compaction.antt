-- What it is to join the segments of a period: of a day, or mixed ones.
use Rattle.std.specs.Prelude.{◌≡◌, ◌≢◌, ◌⊎◌, ◌↔◌, ℕ, ◌≤◌, List, Option, None, IfSome, IsSome, Contains, codes, length}
use Rattle.disk.specs.Calls.{IsUnchanged, RemovesFile}
use Rattle.disk.specs.Files.{settled}
use Rattle.disk.specs.Memory.{shown_now}
use Rattle.disk.specs.States.{Files, State}
use Rattle.journal.specs.Journals.{IsOnDisk, IsSound, Shows}
use Rattle.archive_text.specs.Entries.{Entry, Has}
use Rattle.record_store.specs.Crashes.{Keeps}
use Rattle.record_store.specs.Holdings.{Held}
use Rattle.record_store.specs.Names.{Counts, IsSegment}
use Rattle.record_store.specs.Segments.{IsSegmentOf, ShowsNoMore, segment_name}
use Rattle.store_reading.specs.Days.{IsPeriodText}
use Rattle.store_reading.specs.Segments.{NamesHave}
use Rattle.store_upkeep.specs.Whole.{IsDamagedAt, IsWholeAt}
use Rattle.store_upkeep.specs.declared.whole_files.WholeFiles.{WholeFiles}

-- the octets that a read shows under each name
abbrev pub shown : State → Files
shown state name = shown_now (state.entries name)

-- A disk holds the same set as before: whatever a crash leaves holds all that is committed and nothing that was not
-- received, a read shows the same records, and each file that counts and is another now is whole.
pub record KeepsSet (old new : State) : Type 0 where
  pub kept : (committed received : List Entry) → Keeps old committed received → Keeps new committed received
  pub held : (e : Entry) → Held (shown new) e ↔ Held (shown old) e
  pub whole : (name : List ℕ) → Counts name → (shown new name ≡ shown old name) ⊎ IsWholeAt (shown new) name

-- what a joined segment is called until all of it is on the disk
abbrev pub compact_draft : List ℕ
compact_draft = codes "compact.archive"

-- a read shows under a name what it showed
abbrev pub IsSameAt : State → State → List ℕ → Type 0
IsSameAt old new name = shown new name ≡ shown old name

-- the files that are no segments of the day are the same, but for the draft
abbrev pub IsSameApart : List ℕ → State → State → Type 0
IsSameApart day old new = (name : List ℕ) → name ≢ compact_draft → ¬ (IsSegment day name) → IsSameAt old new name

-- the files that are segments of no day are the same, but for the draft
abbrev pub KeepsOtherFiles : State → State → Type 0
KeepsOtherFiles old new =
    (name : List ℕ) → name ≢ compact_draft → ((day : List ℕ) → IsPeriodText day → ¬ (IsSegment day name))
    → IsSameAt old new name

-- the files under these names are whole
abbrev pub AreWholeAt : Files → List (List ℕ) → Type 0
AreWholeAt files names = (name : List ℕ) → Contains names name → IsWholeAt files name

-- each segment of the day is whole
abbrev pub IsWholeDay : Files → List ℕ → Type 0
IsWholeDay files day = (name : List ℕ) → IsSegment day name → IsWholeAt files name

-- the files are the same but for the draft, or each segment of the day was whole
abbrev pub KeepsUnlessDayIsWhole : List ℕ → State → State → Type 0
KeepsUnlessDayIsWhole day old new =
    ((name : List ℕ) → name ≢ compact_draft → IsSameAt old new name) ⊎ IsWholeDay (shown old) day

-- the segments of a day of which one is damaged are the same
abbrev pub KeepsDamagedDays : State → State → Type 0
KeepsDamagedDays old new =
    (day damaged : List ℕ) → IsSegment day damaged → IsDamagedAt (shown old) damaged → (name : List ℕ)
    → IsSegment day name → IsSameAt old new name

-- a read shows under each name what it showed, or no file
abbrev pub ShowsLess : State → State → Type 0
ShowsLess old new = (name : List ℕ) → (shown new name ≡ shown old name) ⊎ (shown new name ≡ None)

-- nothing is done, or the file of a name is removed that is another one
abbrev pub RemovesOther : State → State → List ℕ → List ℕ → Type 0
RemovesOther old new name kept = IsUnchanged old new ⊎ ((name ≢ kept) × RemovesFile old new name)

-- a list has the name of each file
abbrev pub AreListed : State → List (List ℕ) → Type 0
AreListed state names = (name : List ℕ) → IsSome (shown state name) → Contains names name

-- or of each that is a segment of the day
abbrev pub DayIsListed : State → List (List ℕ) → List ℕ → Type 0
DayIsListed state names day =
    (name : List ℕ) → IsSegment day name → IsSome (shown state name) → Contains names name

-- those of some names that are segments of the day
pub record AreDayNames (names : List (List ℕ)) (day : List ℕ) (found : List (List ℕ)) : Type 0 where
  pub are : (name : List ℕ) → Contains found name → IsSegment day name
  pub all : (name : List ℕ) → Contains names name → IsSegment day name → Contains found name

-- a list of at most so many names has each segment of the day
pub record HasAtMost (most : ℕ) (state : State) (day : List ℕ) : Type 0 where
  pub names : List (List ℕ)
  pub few : length names ≤ most
  pub listed : DayIsListed state names day

-- each day that has a segment has at most so many
abbrev pub EachHasAtMost : ℕ → State → Type 0
EachHasAtMost most state =
    (day name : List ℕ) → IsPeriodText day → IsSegment day name → IsSome (shown state name) → HasAtMost most state day

-- a draft is on the disk, and is the archive of what these segments have
pub record IsJoinOf (old new : State) (draft day : List ℕ) (segments : List (List ℕ)) : Type 0 where
  pub text : List ℕ
  pub entries : List Entry
  pub draft_is : Shows new draft (settled text)
  pub archive : IsSegmentOf day text entries
  pub have : (e : Entry) → Has entries e ↔ NamesHave (shown old) segments day e

-- A file of the day is to get the name of its digest: a read shows under it no record that is not its own, and each of
-- its own somewhere.
pub record MayBePlaced (old : State) (draft name day text : List ℕ) (es : List Entry) : Type 0 where
  pub draft_is : Shows old draft (settled text)
  pub apart : ¬ (Counts draft)
  pub segment : IsSegment day name
  pub named : name ≡ segment_name day text
  pub archive : IsSegmentOf day text es
  pub no_more : ShowsNoMore old name es
  pub held : (e : Entry) → Has es e → Held (shown old) e

-- a file of the day is on the disk under a name, and has what a read shows of these segments
pub record HasAll (state : State) (segments : List (List ℕ)) (joined day text : List ℕ) (es : List Entry) : Type 0 where
  pub on_disk : IsOnDisk state joined text
  pub segment : IsSegment day joined
  pub archive : IsSegmentOf day text es
  pub are : (name : List ℕ) → Contains segments name → IsSegment day name
  pub no_more : (name : List ℕ) → Contains segments name → ShowsNoMore state name es

-- no sync has failed; each day is as the names list it, or has at most so many segments, and the last one has
pub record GoesOn (most : ℕ) (state : State) (names : List (List ℕ)) (last : Option (List ℕ)) : Type 0 where
  pub sound : IsSound state
  pub days : (day : List ℕ) → DayIsListed state names day ⊎ HasAtMost most state day
  pub last_few : IfSome last (HasAtMost most state)

-- the disk underneath
abbrev pub disk_of : {D : Type 0} → WholeFiles D → D
disk_of whole = whole.disk
