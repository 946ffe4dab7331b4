-- What is said of a disk over a folder.
use Rattle.std.specs.Prelude.{false, [], IsTrue, Option, None}
use Rattle.disk.specs.States.{State}
use Rattle.folder_disk.specs.declared.fault.FileError.{FileError}
use Rattle.folder_disk.specs.declared.folder.FolderDisk.{FolderDisk}

-- no contract knows what a folder of the system holds
abbrev pub untold : State
untold = record { entries = λ _. record { now = None; past = []; moved = false }; lost = false }

-- the error by which the disk last failed
abbrev pub last_error_of : {R F D : Type 0} → FolderDisk R F D → Option FileError
last_error_of disk = disk.last_error

-- a sync has failed on it
abbrev pub HasFailedSync : {R F D : Type 0} → FolderDisk R F D → Type 0
HasFailedSync disk = IsTrue disk.sync_failed
