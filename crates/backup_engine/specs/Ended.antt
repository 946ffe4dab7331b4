-- What `backup` does.
use Rattle.std.specs.Prelude.{◌≡◌, ℕ, List, [], ◌∷◌, ◌++◌, Result, Ok, Err, codes}
use Rattle.disk.specs.Calls.{IsUnchanged}
use Rattle.disk.specs.States.{Files, State}
use Rattle.octet_devices.specs.Device.{OutputState}
use Rattle.driver.specs.declared.status.TheConstants.{DONE, FAULT, REFUSED}
use Rattle.journal.specs.Journals.{IsSound}
use Rattle.driver.specs.Ended.{Telling, Tells, TellsLine}
use Rattle.store_engine.specs.Reading.{disk_line, disk_status, is_of_file, read_line, read_status}
use Rattle.store_upkeep.specs.declared.damage.DamagedFile.{DamagedFile}
use Rattle.store_backup.specs.Backups.{HoldsAll, HoldsNoOther, IsBackup, IsEmptyFolder, ShowsSome}
use Rattle.store_backup.specs.Copies.{LeavesCopies}
use Rattle.store_backup.specs.declared.fault.BackupFault.{BackupFault}
use Rattle.store_backup.specs.declared.fault.BackupFault.TheVariants.{Copy, NotEmpty}
use Rattle.store_backup.specs.declared.fault.CopyFault.{CopyFault}
use Rattle.store_backup.specs.declared.fault.CopyFault.TheVariants.{Folder, Read, Write}
use Rattle.store_backup.specs.declared.outcome.Backup.{Backup}
use Rattle.backup_engine.specs.Lines.{backup_lines}

abbrev pub copy_line : CopyFault → List ℕ
copy_line (Read fault) = read_line fault
copy_line (Folder fault) = disk_line fault (codes "copy fault\n")
copy_line (Write name fault) = disk_line fault (name ++ codes " write fault\n")

abbrev pub copy_status : CopyFault → ℕ
copy_status (Read fault) = read_status fault
copy_status (Folder fault) = disk_status fault
copy_status (Write name fault) = disk_status fault

-- its line has the name of a file
abbrev pub is_on_file : CopyFault → Type 0
is_on_file (Read fault) = is_of_file fault
is_on_file (Folder fault) = ⊥
is_on_file (Write name fault) = Unit {0}

abbrev pub copy_telling : Telling CopyFault
copy_telling = record { line = copy_line; status = copy_status; takes_memory = is_on_file }

abbrev pub fault_line : BackupFault → List ℕ
fault_line NotEmpty = codes "the folder of the copy has files\n"
fault_line (Copy fault) = copy_line fault

abbrev pub fault_status : BackupFault → ℕ
fault_status NotEmpty = FAULT
fault_status (Copy fault) = copy_status fault

abbrev pub has_name : BackupFault → Type 0
has_name NotEmpty = ⊥
has_name (Copy fault) = is_on_file fault

abbrev pub backup_telling : Telling BackupFault
backup_telling = record { line = fault_line; status = fault_status; takes_memory = has_name }

-- the status of a backup that was made
abbrev pub damage_status : List DamagedFile → ℕ
damage_status [] = DONE
damage_status (d ∷ ds) = REFUSED

abbrev pub status_of : Backup → ℕ
status_of b = damage_status b.damaged.items

-- a store was copied, and told: `reads` says that both tell what they hold
pub record IsBackedUp (reads : Type 0) (files : Files) (old new : State) (backup : Backup) (n n_new : OutputState)
    (status : ℕ) : Type 0 where
  pub told : TellsLine (backup_lines backup) (status_of backup) n n_new status
  pub copied : reads → IsSound old → IsBackup files new backup
  pub all : reads → IsSound old → backup.damaged.items ≡ [] → HoldsAll files new
  pub no_other : reads → IsSound old → HoldsNoOther files new

-- or not, and why
pub record IsNotBackedUp (tells : Type 0) (old new : State) (fault : BackupFault) (n n_new : OutputState) (status : ℕ) :
    Type 0 where
  pub told : Tells backup_telling fault n n_new status
  pub refused : fault ≡ NotEmpty → tells → IsSound old → ShowsSome old
  pub kept : fault ≡ NotEmpty → tells → IsUnchanged old new

abbrev pub Ends : Type 0 → Type 0 → Files → State → State → Result Backup BackupFault → OutputState → OutputState → ℕ
    → Type 0
Ends source target files old new (Ok backup) n n_new status =
    IsBackedUp (source × target) files old new backup n n_new status
Ends source target files old new (Err fault) n n_new status = IsNotBackedUp target old new fault n n_new status

-- What a backup does, whatever the folder, the disk and the diagnostics do: `source` says that the folder tells its
-- files, `target` that the disk tells what it holds.
pub record RanBackup (source target : Type 0) (files : Files) (old new : State) (n n_new : OutputState) (status : ℕ) :
    Type 0 where
  pub ending : Result Backup BackupFault
  pub ends : Ends source target files old new ending n n_new status
  pub any_moment : source → target → IsEmptyFolder old → LeavesCopies files new
