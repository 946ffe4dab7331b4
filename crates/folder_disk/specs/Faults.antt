-- What the errors of the system mean to a disk.
use Rattle.std.specs.Prelude.{◌≡◌, ◌⊎◌, ◌↔◌, Option, IsSomeAnd}
use Rattle.std.specs.declared.io.Error.{Error}
use Rattle.std.specs.declared.io.ErrorKind.{ErrorKind}
use Rattle.std.specs.declared.io.ErrorKind.TheVariants.{NotFound, AlreadyExists, StorageFull, QuotaExceeded, OutOfMemory}
use Rattle.std.specs.IoError.{error_kind}
use Rattle.disk.specs.declared.fault.DiskFault.{DiskFault}
use Rattle.disk.specs.declared.fault.DiskFault.TheVariants.{Missing, Exists, Full, Failed, Memory}
use Rattle.folder_disk.specs.declared.fault.FileError.{FileError}
use Rattle.folder_disk.specs.declared.fault.Target.{Target}
use Rattle.folder_disk.specs.declared.fault.Target.TheVariants.{File, FreeName}

-- the fault that an error of this kind is, where the call was on such a target; any other is `Failed`
pub record IsFault (target : Target) (kind : ErrorKind) (fault : DiskFault) : Type 0 where
  pub missing : (fault ≡ Missing) ↔ ((target ≡ File) × (kind ≡ NotFound))
  pub exists : (fault ≡ Exists) ↔ ((target ≡ FreeName) × (kind ≡ AlreadyExists))
  pub full : (fault ≡ Full) ↔ ((kind ≡ StorageFull) ⊎ (kind ≡ QuotaExceeded))
  pub memory : (fault ≡ Memory) ↔ (kind ≡ OutOfMemory)

-- that fault, and the error is kept where the disk failed
pub record IsTold (target : Target) (error : Error) (fault : DiskFault) (kept : Option FileError) : Type 0 where
  pub is_fault : IsFault target (error_kind error) fault
  pub is_kept : (fault ≡ Failed) ⊎ (fault ≡ Full) → IsSomeAnd kept (λ last. last.error ≡ error)
