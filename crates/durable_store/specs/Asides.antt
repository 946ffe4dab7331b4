-- What an opening sets aside.
use Rattle.std.specs.Prelude.{◌≡◌, ◌≢◌, ◌⊎◌, ℕ, ◌<◌, ◌≤◌, ◌^◌, List, [], ◌∷◌, ◌++◌, Contains, None, Some, length, map}
use Rattle.std.specs.List.{AllByRecursion}
use Rattle.std.specs.List.Sorted.{IsStrictlyIncreasing}
use Rattle.disk.specs.States.{State, kept}
use Rattle.journal.specs.Batches.{HasBatches}
use Rattle.archive_text.specs.Entries.{Entry}
use Rattle.record_store.specs.Asides.{IsAside, aside_name}
use Rattle.record_store.specs.Crashes.{InSegment}
use Rattle.record_store.specs.Names.{journal_name}
use Rattle.record_store.specs.Holdings.{IsWholeJournal, JournalHas}
use Rattle.record_store.specs.Shown.{journal_shown}
use Rattle.durable_store.specs.Recovery.{Adds}
use Rattle.durable_store.specs.declared.tail.Tail.{Tail}
use Rattle.durable_store.specs.declared.aside.SetAside.{SetAside}
use Rattle.durable_store.specs.declared.store.DurableStore.{DurableStore}

-- what was set aside when the store was opened
abbrev pub asides_of : DurableStore → List SetAside
asides_of store = store.asides.items

-- octets are those behind the batches of a file
pub record IsBehind (file octets : List ℕ) : Type 0 where
  pub bodies : List (List ℕ)
  pub has : HasBatches file bodies
  pub is : has.tail ≡ octets

-- behind the batches of a file is at most the octet that the next one is opened by; or more, and that comes to those of
-- others
pub record IsTailOf (file : List ℕ) (number : ℕ) (tail : Tail) : Type 0 where
  pub number_is : tail.number ≡ number
  pub more : 1 < length tail.octets.items
  pub behind : IsBehind file tail.octets.items

abbrev pub AddsTail : List Tail → List Tail → List ℕ → ℕ → Type 0
AddsTail old new file number = ((new ≡ old) × ((octets : List ℕ) → IsBehind file octets → length octets ≤ 1))
    ⊎ ((tail : Tail) × (new ≡ old ++ tail ∷ []) × IsTailOf file number tail)

-- the entries of a whole journal are added to a set, and what is behind its batches
pub record AddsJournal (old new : List Entry) (tails then : List Tail) (number : ℕ) (file : List ℕ) : Type 0 where
  pub adds : Adds old new (JournalHas file)
  pub whole : IsWholeJournal file
  pub behind : AddsTail tails then file number

-- octets are behind the batches of a journal that is shown
pub record IsTail (state : State) (tail : Tail) : Type 0 where
  pub octets : List ℕ
  pub small : tail.number < 2 ^ 64
  pub shown : journal_shown state tail.number ≡ Some octets
  pub behind : IsBehind octets tail.octets.items
  pub more : 1 < length tail.octets.items

abbrev pub tail_number : Tail → ℕ
tail_number tail = tail.number

abbrev pub aside_number : SetAside → ℕ
aside_number aside = aside.number

-- what is behind the batches of the journals that are shown, if that is more than an octet
pub record AreTails (state : State) (tails : List Tail) : Type 0 where
  pub ascend : IsStrictlyIncreasing (map tail_number tails)
  pub each : AllByRecursion (IsTail state) tails
  pub all : (number : ℕ) (file octets : List ℕ) → number < 2 ^ 64 → journal_shown state number ≡ Some file
      → IsBehind file octets → 1 < length octets → Contains (map tail_number tails) number

-- ---- what is done with them

-- octets were written behind what a read showed as set aside of their journal, and are told
pub record IsPutAside (old new : State) (tail : Tail) (aside : SetAside) : Type 0 where
  pub number_is : aside.number ≡ tail.number
  pub counted : aside.octets ≡ length tail.octets.items
  pub put : IsAside old new (aside_name tail.number) tail.octets.items

-- a read shows a journal of these batches, which is no longer than so many octets
pub record ShowsBatches (state : State) (number : ℕ) (bodies : List (List ℕ)) (most : ℕ) : Type 0 where
  pub octets : List ℕ
  pub shown : journal_shown state number ≡ Some octets
  pub has : HasBatches octets bodies
  pub short : length octets ≤ most

-- it shows a journal of the same batches as before, which is no longer
abbrev pub ShowsBatchesOf : State → State → ℕ → Type 0
ShowsBatchesOf old new number = (octets : List ℕ) (bodies : List (List ℕ)) → journal_shown old number ≡ Some octets
    → HasBatches octets bodies → ShowsBatches new number bodies (length octets)

-- each name but those of a journal and of what is set aside of it is as it was, but that it may be on the disk now; and
-- the journal has the same batches
pub record CutsBeside (old new : State) (number : ℕ) : Type 0 where
  pub others : (name : List ℕ) → name ≢ aside_name number → name ≢ journal_name number
      → (new.entries name ≡ old.entries name) ⊎ (new.entries name ≡ kept (old.entries name))
  pub batches : ShowsBatchesOf old new number

-- a read shows the same journals, each with the same batches, and segments hold what they held
pub record ShowsAllBatches (old new : State) : Type 0 where
  pub batches : (n : ℕ) → n < 2 ^ 64 → ShowsBatchesOf old new n
  pub none : (n : ℕ) → n < 2 ^ 64 → journal_shown old n ≡ None → journal_shown new n ≡ None
  pub segments : (e : Entry) → InSegment old e → InSegment new e

-- what is behind the batches of a journal that was shown was set aside
pub record TailIsAside (old new : State) (aside : SetAside) : Type 0 where
  pub file : List ℕ
  pub octets : List ℕ
  pub small : aside.number < 2 ^ 64
  pub shown : journal_shown old aside.number ≡ Some file
  pub behind : IsBehind file octets
  pub more : 1 < length octets
  pub counted : aside.octets ≡ length octets
  pub put : IsAside old new (aside_name aside.number) octets

-- so it is of all of these octets
pub record ArePutAside (old new : State) (tails : List Tail) (asides : List SetAside) : Type 0 where
  pub numbers : map aside_number asides ≡ map tail_number tails
  pub each : AllByRecursion (TailIsAside old new) asides

-- so it is of these, and of each journal behind whose batches is more than the octet that the next one is opened by
pub record SetsTailsAside (old new : State) (asides : List SetAside) : Type 0 where
  pub ascend : IsStrictlyIncreasing (map aside_number asides)
  pub each : AllByRecursion (TailIsAside old new) asides
  pub all : (number : ℕ) (file octets : List ℕ) → number < 2 ^ 64 → journal_shown old number ≡ Some file
      → IsBehind file octets → 1 < length octets → Contains (map aside_number asides) number
