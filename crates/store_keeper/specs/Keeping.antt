-- What a durable store keeps of what a server hands over.
use Rattle.std.specs.Prelude.{◌≡◌, ◌↔◌, ◌⊎◌, List, ◌++◌}
use Rattle.disk.specs.States.{State}
use Rattle.archive_pages.specs.Paged.{entries_from, entries_in}
use Rattle.archive_pages.specs.declared.paged.PagedArchive.{PagedArchive}
use Rattle.archive_pages.specs.declared.reading.Place.{Place}
use Rattle.archive_text.specs.Entries.{Entry, Has}
use Rattle.record_store.specs.Stores.{AreAmong, Sets}
use Rattle.durable_store.specs.Durables.{Stands}
use Rattle.durable_store.specs.declared.store.DurableStore.{DurableStore}
use Rattle.serve_engine.specs.Keepings.{Kept}

-- The store stands on the disk, and has received just what is held: each of it is committed, or waits for the next commit.
-- What is told to be committed the store has committed.
pub record IsKept (store : DurableStore) (state : State) (k : Kept) : Type 0 where
  pub sets : Sets
  pub stands : Stands store state sets
  pub held : (e : Entry) → Has k.held e ↔ Has sets.received e
  pub committed : AreAmong k.committed sets.committed
  pub waits : (e : Entry) → Has k.held e → Has sets.committed e ⊎ Has sets.waiting e

-- all of a list is held and committed
abbrev pub kept_whole : List Entry → Kept
kept_whole es = record { held = es; committed = es }

-- these are held too
abbrev pub with_held : Kept → List Entry → Kept
with_held k es = record { held = k.held ++ es; committed = k.committed }

-- wherever a store stood, it stands there with these held too
abbrev pub Takes : DurableStore → DurableStore → List Entry → Type 0
Takes old new es = (state : State) (k : Kept) → IsKept old state k → IsKept new state (with_held k es)

-- or as it stood
abbrev pub StaysAs : DurableStore → DurableStore → Type 0
StaysAs old new = (state : State) (k : Kept) → IsKept old state k → IsKept new state k

-- it takes the first of these, but for the rest
pub record TakesFront (old new : DurableStore) (all rest : List Entry) : Type 0 where
  pub front : List Entry
  pub parts : all ≡ front ++ rest
  pub takes : Takes old new front

-- a place in a set: its entries from there on are the last of them
abbrev pub IsPlace : PagedArchive → Place → Type 0
IsPlace s place = (front : List Entry) × (entries_in s ≡ front ++ entries_from s place)
