-- What a store is on a disk.
use Rattle.std.specs.Prelude.{◌≡◌, ℕ, ◌^◌, ◌<◌, List, [], ◌∷◌, ◌++◌, None, IsTrue, false, length}
use Rattle.disk.specs.States.{State}
use Rattle.journal.specs.Journals.{Stands as JournalStands}
use Rattle.journal.specs.declared.journal.Journal.{Journal}
use Rattle.archive_text.specs.Entries.{Entry, Has}
use Rattle.archive_text.specs.Faults.{IsEntryFault}
use Rattle.archive_text.specs.declared.limits.TheConstants.{ENTRY_MAX}
use Rattle.record_store.specs.Crashes.{Keeps, resting}
use Rattle.record_store.specs.Holdings.{AreEntries, BatchesHave}
use Rattle.record_store.specs.Names.{journal_name}
use Rattle.record_store.specs.Shown.{JournalsWithin, ShowsWithin}
use Rattle.record_store.specs.declared.fault.AppendFault.{AppendFault}
use Rattle.record_store.specs.declared.fault.AppendFault.TheVariants.{Entry as Entry_fault, TooLong, Broken, Memory}
use Rattle.record_store.specs.declared.store.RecordStore.{RecordStore}

-- a call has failed, and the store is to be opened anew
abbrev pub IsBroken : RecordStore → Type 0
IsBroken store = IsTrue store.broken

-- none has
abbrev pub IsWhole : RecordStore → Type 0
IsWhole store = store.broken ≡ false

-- why these octets are not added to a batch
abbrev pub IsAppendFault : RecordStore → List ℕ → AppendFault → Type 0
IsAppendFault store octets (Entry_fault fault) = IsEntryFault octets fault
IsAppendFault store octets TooLong = ENTRY_MAX < length octets
IsAppendFault store octets Broken = IsBroken store
IsAppendFault store octets Memory = Unit {0}

-- each of these entries is one of those
abbrev pub AreAmong : List Entry → List Entry → Type 0
AreAmong these those = (e : Entry) → Has these e → Has those e

-- the number of the store's journal
abbrev pub number_of : RecordStore → ℕ
number_of store = store.number

abbrev pub journal_of : RecordStore → Journal
journal_of store = store.journal

-- the octets that wait for a commit
abbrev pub batch_of : RecordStore → List ℕ
batch_of store = store.batch.items

-- two stores differ in what waits alone
pub record IsSameButBatch (one other : RecordStore) : Type 0 where
  pub journal : other.journal ≡ one.journal
  pub number : other.number ≡ one.number
  pub broken : other.broken ≡ one.broken

-- they differ in whether a call has failed alone
pub record IsSameButBroken (one other : RecordStore) : Type 0 where
  pub journal : other.journal ≡ one.journal
  pub number : other.number ≡ one.number
  pub batch : other.batch ≡ one.batch

-- What became of the entries that a store was given: committed for good; received at all; those that came since the last
-- checkpoint; and those of them that wait for the next commit.
pub record Sets : Type 0 where
  pub committed : List Entry
  pub received : List Entry
  pub since : List Entry
  pub waiting : List Entry

-- a store begins with what is in the folder
abbrev pub begun : List Entry → List Entry → List Entry → Sets
begun committed received since =
    record { committed = committed; received = received; since = since; waiting = [] }

-- one entry more waits
abbrev pub with_waiting : Sets → Entry → Sets
with_waiting sets e = record {
  committed = sets.committed;
  received = sets.received ++ e ∷ [];
  since = sets.since ++ e ∷ [];
  waiting = sets.waiting ++ e ∷ [];
}

-- those that wait are committed
abbrev pub all_committed : Sets → Sets
all_committed sets = record {
  committed = sets.committed ++ sets.waiting;
  received = sets.received;
  since = sets.since;
  waiting = [];
}

-- The store's journal is on the disk, with entries that came since the last checkpoint and no others, and there is no
-- later one, whatever a crash leaves.
pub record IsReady (store : RecordStore) (state : State) (since : List Entry) : Type 0 where
  pub small : store.number < 2 ^ 64
  pub named : store.journal.name ≡ journal_name store.number
  pub bodies : List (List ℕ)
  pub stands : JournalStands store.journal state bodies
  pub has : (e : Entry) → BatchesHave bodies e → Has since e
  pub newest : (n : ℕ) → store.number < n → n < 2 ^ 64 → state.entries (journal_name n) ≡ resting None

-- What a crash leaves of the folder holds all that is committed, and nothing that was not received; what waits came since
-- the last checkpoint, and what came since was received; unless a call has failed the journal is ready for the next; and
-- where none of the failed calls was a sync, what a read shows in the newest journal came since the last checkpoint, and
-- what it shows in an older one did too, or is in a segment.
pub record Stands (store : RecordStore) (state : State) (sets : Sets) : Type 0 where
  pub keeps : Keeps state sets.committed sets.received
  pub batch : AreEntries sets.waiting store.batch.items
  pub waits : AreAmong sets.waiting sets.since
  pub within : AreAmong sets.since sets.received
  pub ready : store.broken ≡ false → IsReady store state sets.since
  pub shows : state.lost ≡ false → ShowsWithin state sets.since
  pub older : state.lost ≡ false → JournalsWithin state sets.since
