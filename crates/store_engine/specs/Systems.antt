-- What is said of a folder of the system.
use Rattle.std.specs.Prelude.{Option}
use Rattle.folder_disk.specs.declared.fault.FileError.{FileError}
use Rattle.store_engine.specs.declared.system.SystemFolder.{SystemFolder}

-- the error by which a call last failed
abbrev pub last_error_of : {R : Type 0} → SystemFolder R → Option FileError
last_error_of folder = folder.last_error
