-- The journals that a read of a folder shows.
use Rattle.std.specs.Prelude.{◌≡◌, ◌≢◌, ◌⊎◌, ◌↔◌, ℕ, ◌^◌, ◌<◌, ◌≤◌, List, [], Contains, Option, None, Some}
use Rattle.std.specs.List.Sorted.{IsStrictlyIncreasing}
use Rattle.disk.specs.Memory.{shown_now}
use Rattle.disk.specs.States.{State}
use Rattle.journal.specs.Batches.{HasBatches, batches_text}
use Rattle.archive_text.specs.Entries.{Entry, Has}
use Rattle.record_store.specs.Crashes.{InSegment}
use Rattle.record_store.specs.Holdings.{JournalHas}
use Rattle.record_store.specs.Names.{journal_name}

-- the octets that a read shows of the journal of a number, if there is one
abbrev pub journal_shown : State → ℕ → Option (List ℕ)
journal_shown state number = shown_now (state.entries (journal_name number))

-- no later journal is shown
abbrev pub NoneShownAbove : State → ℕ → Type 0
NoneShownAbove state number = (n : ℕ) → number < n → n < 2 ^ 64 → journal_shown state n ≡ None

-- the journal of this number is shown, with these octets, and no later one
pub record IsNewestShown (state : State) (number : ℕ) (octets : List ℕ) : Type 0 where
  pub small : number < 2 ^ 64
  pub shown : journal_shown state number ≡ Some octets
  pub none_above : NoneShownAbove state number

-- no journal is shown
abbrev pub ShowsNoJournal : State → Type 0
ShowsNoJournal state = (n : ℕ) → n < 2 ^ 64 → journal_shown state n ≡ None

-- the newest journal that is shown has no other entries than these
abbrev pub ShowsWithin : State → List Entry → Type 0
ShowsWithin state since = (number : ℕ) (octets : List ℕ) → IsNewestShown state number octets
    → (e : Entry) → JournalHas octets e → Has since e

-- some journal that is shown has the entry
pub record JournalsHave (state : State) (e : Entry) : Type 0 where
  pub number : ℕ
  pub octets : List ℕ
  pub small : number < 2 ^ 64
  pub shown : journal_shown state number ≡ Some octets
  pub has : JournalHas octets e

-- what a journal that is shown has is one of these entries, or is in a segment
abbrev pub JournalsWithin : State → List Entry → Type 0
JournalsWithin state since = (e : Entry) → JournalsHave state e → Has since e ⊎ InSegment state e

-- the numbers, ascending, of all journals up to one that are shown
pub record AreShown (state : State) (last : ℕ) (numbers : List ℕ) : Type 0 where
  pub ascend : IsStrictlyIncreasing numbers
  pub are : (n : ℕ) → Contains numbers n ↔ ((n ≤ last) × (journal_shown state n ≢ None))

-- a text is the batches of the newest journal that is shown, one behind the other
pub record GivesShown (state : State) (number : ℕ) (text : List ℕ) : Type 0 where
  pub octets : List ℕ
  pub newest : IsNewestShown state number octets
  pub bodies : List (List ℕ)
  pub has : HasBatches octets bodies
  pub text_is : text ≡ batches_text bodies

-- or of the first journal, without batches, where none is shown
abbrev pub GivesNewest : State → ℕ → List ℕ → Type 0
GivesNewest state number text =
    GivesShown state number text ⊎ (ShowsNoJournal state × (number ≡ 1) × (text ≡ []))

-- a read shows the same under each other name, and under this one a journal of the same batches
pub record ShowsTheBatches (old new : State) (name : List ℕ) : Type 0 where
  pub others : (other : List ℕ) → other ≢ name → shown_now (new.entries other) ≡ shown_now (old.entries other)
  pub here : (octets : List ℕ) (bodies : List (List ℕ)) → shown_now (old.entries name) ≡ Some octets
      → HasBatches octets bodies
      → (found : List ℕ) × (shown_now (new.entries name) ≡ Some found) × HasBatches found bodies
