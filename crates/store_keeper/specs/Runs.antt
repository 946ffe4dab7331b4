-- What a run of a server leaves in a store's folder.
use Rattle.std.specs.Prelude.{◌↔◌, ◌⊎◌, List, [], ◌∷◌, ◌++◌}
use Rattle.disk.specs.States.{Files, State}
use Rattle.disk.specs.declared.calls.Disk.{Ghosts}
use Rattle.archive_text.specs.Entries.{Entry, Has}
use Rattle.syslog_legacy.specs.declared.frame_reading.FrameReading.{FrameReading}
use Rattle.syslog_collect.specs.Collectors.{reading_of}
use Rattle.syslog_collect.specs.Frames.{IsReceived}
use Rattle.syslog_collect.specs.History.{AcceptedEvent}
use Rattle.record_store.specs.Crashes.{MayLeaveCounted}
use Rattle.record_store.specs.Holdings.{Held}
use Rattle.serve_engine.specs.Keepings.{Kept}
use Rattle.serve_engine.specs.Servers.{DoneRun, Made, Place, events_of}
use Rattle.serve_engine.specs.Serving.{IfCommitted}
use Rattle.serve_engine.specs.declared.serve_end.ServeEnd.{ServeEnd}
use Rattle.store_keeper.specs.Keepers.{KeepsOn, disk_of}
use Rattle.store_keeper.specs.Spares.{spared_entries}
use Rattle.store_keeper.specs.declared.keeper.DiskKeeper.{DiskKeeper}
use Rattle.store_keeper.specs.declared.spared.SparedSet.{SparedSet}

-- the disk that the store of a server is on
abbrev pub server_disk : {D : Type 0} {row : Ghosts D} → Place SparedSet (DiskKeeper D row) → D
server_disk place = disk_of place.intake.keeper

-- whatever a crash leaves of a folder holds what was there first and what was received, and nothing else
abbrev pub LeavesReceived : State → FrameReading → List Entry → List AcceptedEvent → Type 0
LeavesReceived state way first events = (files : Files) → MayLeaveCounted state files → (e : Entry)
    → Held files e ↔ (Has first e ⊎ IsReceived way events e)

-- or nothing else
abbrev pub LeavesNoOther : State → FrameReading → List Entry → List AcceptedEvent → Type 0
LeavesNoOther state way first events = (files : Files) → MayLeaveCounted state files → (e : Entry) → Held files e
    → Has first e ⊎ IsReceived way events e

-- an entry was committed after one of these turns
abbrev pub WasCommitted : List Made → Entry → Type 0
WasCommitted [] e = ⊥
WasCommitted (m ∷ ms) e = Has m.kept.committed e ⊎ WasCommitted ms e

-- or all that was committed at first, and after each of these turns
abbrev pub LeavesCommitted : State → Kept → List Made → Type 0
LeavesCommitted state k made = (files : Files) → MayLeaveCounted state files → (e : Entry)
    → Has k.committed e ⊎ WasCommitted made e → Held files e

-- The run is what the engine says of it. On a disk that tells, a crash leaves then all that was received, where the run
-- ends with all of it committed; however it ends, all that was committed at any time of it, and nothing that was not
-- received.
pub record RunLeaves {D : Type 0} {row : Ghosts D} (end : ServeEnd) (old new : Place SparedSet (DiskKeeper D row))
    (k : Kept) (first : List Entry) (before : List AcceptedEvent) : Type 0 where
  pub run : DoneRun spared_entries KeepsOn end old new k first before
  pub received : row.tells (server_disk new) → IfCommitted end
      (LeavesReceived (row.state (server_disk new)) (reading_of old.intake.collector) first
      (before ++ events_of run.made))
  pub committed : row.tells (server_disk new) → LeavesCommitted (row.state (server_disk new)) k run.made
  pub no_other : row.tells (server_disk new)
      → LeavesNoOther (row.state (server_disk new)) (reading_of old.intake.collector) first
      (before ++ events_of run.made)
