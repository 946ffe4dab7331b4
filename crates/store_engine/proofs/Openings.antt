-- A call that failed, and not for want of memory.
use Rattle.std.proofs.Common.{◌≡◌, ◌⊎◌, ℕ, List, inl, inr}
use Rattle.octet_devices.specs.Device.{OutputState}
use Rattle.disk.specs.declared.fault.DiskFault.{DiskFault}
use Rattle.disk.specs.declared.fault.DiskFault.TheVariants.{Missing, Exists, Full, Failed, Memory}
use Rattle.driver.specs.declared.status.TheConstants.{FAULT}
use Rattle.driver.specs.Ended.{TellsLine}
use Rattle.store_engine.specs.Reading.{disk_line, disk_status}

-- any of these but want of memory
abbrev pub IsOther : DiskFault → Type 0
IsOther fault = (fault ≡ Missing) ⊎ ((fault ≡ Exists) ⊎ ((fault ≡ Full) ⊎ (fault ≡ Failed)))

-- it is told by its own line
pub told_opening : (fault : DiskFault) (line : List ℕ) (old new : OutputState) (status : ℕ) → IsOther fault
    → TellsLine line FAULT old new status → TellsLine (disk_line fault line) (disk_status fault) old new status
told_opening Missing line old new status is told = told
told_opening Exists line old new status is told = told
told_opening Full line old new status is told = told
told_opening Failed line old new status is told = told
told_opening Memory line old new status (inl is) told = absurd (cc is)
told_opening Memory line old new status (inr (inl is)) told = absurd (cc is)
told_opening Memory line old new status (inr (inr (inl is))) told = absurd (cc is)
told_opening Memory line old new status (inr (inr (inr is))) told = absurd (cc is)
