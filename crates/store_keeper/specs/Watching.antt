-- What a watched disk is over.
use Rattle.disk.specs.declared.calls.Disk.{Ghosts}
use Rattle.store_keeper.specs.declared.watched.WatchedDisk.{WatchedDisk}

-- the disk below
abbrev pub watched : {D : Type 0} {row : Ghosts D} → WatchedDisk D row → D
watched w = w.disk
