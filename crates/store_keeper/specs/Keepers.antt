-- What a keeper has, and how it stands.
use Rattle.disk.specs.declared.calls.Disk.{Ghosts}
use Rattle.durable_store.specs.declared.store.DurableStore.{DurableStore}
use Rattle.serve_engine.specs.Keepings.{Kept}
use Rattle.store_keeper.specs.Keeping.{IsKept}
use Rattle.store_keeper.specs.Watching.{watched}
use Rattle.store_keeper.specs.declared.keeper.DiskKeeper.{DiskKeeper}

-- its disk
abbrev pub disk_of : {D : Type 0} {row : Ghosts D} → DiskKeeper D row → D
disk_of keeper = watched keeper.disk

-- its store
abbrev pub store_of : {D : Type 0} {row : Ghosts D} → DiskKeeper D row → DurableStore
store_of keeper = keeper.store

-- its store keeps this, if the disk tells
abbrev pub KeepsOn : {D : Type 0} {row : Ghosts D} → DiskKeeper D row → Kept → Type 0
KeepsOn {row = row} keeper k = row.tells (disk_of keeper) → IsKept (store_of keeper) (row.state (disk_of keeper)) k
