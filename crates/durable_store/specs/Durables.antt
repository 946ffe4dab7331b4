-- What a durable store is on a disk.
use Rattle.std.specs.Prelude.{◌≡◌, ◌⊎◌, ◌↔◌, ℕ, ℤ, List}
use Rattle.disk.specs.States.{State}
use Rattle.syslog_value.specs.Parts.{Parts}
use Rattle.archive_text.specs.Entries.{Entry, Has, IsEntryOf}
use Rattle.archive_text.specs.declared.store.Added.{Added}
use Rattle.archive_text.specs.declared.store.Added.TheVariants.{New, Held}
use Rattle.archive_pages.specs.Paged.{entries_in}
use Rattle.record_store.specs.Shown.{IsNewestShown, ShowsNoJournal}
use Rattle.record_store.specs.Stores.{IsBroken as IsStoreBroken, Sets, Stands as JournalStands, batch_of, number_of}
use Rattle.record_store.specs.Stores.{with_waiting}
use Rattle.record_store.specs.declared.store.RecordStore.{RecordStore}
use Rattle.durable_store.specs.Recovery.{IsRecovered}
use Rattle.durable_store.specs.declared.store.DurableStore.{DurableStore}

-- the entries in memory, in order
abbrev pub entries_of : DurableStore → List Entry
entries_of store = entries_in store.set

-- its journal and the batch that waits
abbrev pub journal_store : DurableStore → RecordStore
journal_store store = store.store

-- the octets that wait for a commit
abbrev pub waiting_of : DurableStore → List ℕ
waiting_of store = batch_of store.store

-- a call has failed, and the store is to be opened again
abbrev pub IsBroken : DurableStore → Type 0
IsBroken store = IsStoreBroken store.store

-- The journal and the batch that waits stand on the disk (so whatever a crash leaves holds all that is committed, and
-- nothing that was not received), and the entries in memory are those that came since the last checkpoint.
pub record Stands (store : DurableStore) (state : State) (sets : Sets) : Type 0 where
  pub journal : JournalStands store.store state sets
  pub held : (e : Entry) → Has (entries_of store) e ↔ Has sets.since e

-- The entries in memory are those of the journals that a read shows, each of which is whole, and the store goes on with
-- the newest, or with the first where there is none.
pub record Recovers (store : DurableStore) (state : State) : Type 0 where
  pub recovered : IsRecovered state (entries_of store)
  pub newest : (((octets : List ℕ) × IsNewestShown state (number_of store.store) octets))
      ⊎ (ShowsNoJournal state × (number_of store.store ≡ 1))

-- what becomes of the sets where an entry is added: a new one was received, and waits
abbrev pub with_added : Sets → Entry → Added → Sets
with_added sets e New = with_waiting sets e
with_added sets e Held = sets

-- the entry of a record was added
abbrev pub AddsTo : Parts ℤ → DurableStore → State → Sets → Added → Type 0
AddsTo r store state sets added = (e : Entry) × IsEntryOf r e × Stands store state (with_added sets e added)
