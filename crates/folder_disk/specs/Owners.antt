-- Whose folder a store may be kept in.
use Rattle.std.specs.Prelude.{◌≡◌, ◌≢◌, ◌⊎◌, ◌≤◌, ℕ, bit_and}
use Rattle.std.specs.declared.io.ErrorKind.{ErrorKind}
use Rattle.std.specs.declared.io.ErrorKind.TheVariants.{PermissionDenied}
use Rattle.std.specs.IoError.{error_kind}
use Rattle.folder_disk.specs.declared.owner.FolderFault.{FolderFault}
use Rattle.folder_disk.specs.declared.owner.FolderFault.TheVariants.{System, OtherOwner, OwnersAlone, Anybodys, Parent}

-- the user by whom all may be changed
abbrev pub root : ℕ
root = 0

-- a caller's own folder or root's, to which not everybody may write
pub record MayKeep (caller owner mode : ℕ) : Type 0 where
  pub owned : (owner ≡ caller) ⊎ (owner ≡ root)
  pub closed : bit_and mode 0o002 ≡ 0

-- a file of the caller's own or root's, which has no other name
pub record MayWriteTo (caller owner names : ℕ) : Type 0 where
  pub owned : (owner ≡ caller) ⊎ (owner ≡ root)
  pub alone : names ≤ 1

-- why such a folder is refused
pub record IsRefusal (caller owner group : ℕ) (fault : FolderFault) : Type 0 where
  pub owned : ((owner ≡ caller) ⊎ (owner ≡ root)) → fault ≡ Anybodys
  pub of_other : owner ≢ caller → owner ≢ root → caller ≢ root → fault ≡ OtherOwner
  pub of_root : owner ≢ caller → owner ≢ root → caller ≡ root → fault ≡ OwnersAlone owner group

-- the kind of the error that a fault is
abbrev pub fault_kind : FolderFault → ErrorKind
fault_kind (System error) = error_kind error
fault_kind OtherOwner = PermissionDenied
fault_kind (OwnersAlone uid gid) = PermissionDenied
fault_kind Anybodys = PermissionDenied
fault_kind (Parent parent error) = error_kind error
