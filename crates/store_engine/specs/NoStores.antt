-- Why a folder is no store.
use Rattle.std.specs.Prelude.{◌≡◌}
use Rattle.std.specs.declared.io.ErrorKind.TheVariants.{OutOfMemory}
use Rattle.std.specs.IoError.{error_kind}
use Rattle.folder_disk.specs.Owners.{fault_kind}
use Rattle.store_engine.specs.declared.lines.NoStore.{NoStore}
use Rattle.store_engine.specs.declared.lines.NoStore.TheVariants.{System, NoFiles, Refused}

-- memory ran out
abbrev pub IsOfMemory : NoStore → Type 0
IsOfMemory (System error) = error_kind error ≡ OutOfMemory
IsOfMemory NoFiles = ⊥
IsOfMemory (Refused fault) = fault_kind fault ≡ OutOfMemory
