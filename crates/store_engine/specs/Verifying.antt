-- What `verify` does.
use Rattle.std.specs.Prelude.{◌≡◌, ◌⊎◌, ◌<◌, ℕ, List, Option, IfSome, length}
use Rattle.disk.specs.States.{Files}
use Rattle.octet_devices.specs.Device.{OutputState}
use Rattle.octet_devices.specs.Transfers.{WroteAll, WrotePart}
use Rattle.driver.specs.declared.status.TheConstants.{DONE, REFUSED}
use Rattle.driver.specs.Ended.{EndsAs}
use Rattle.store_reading.specs.Causes.{IsCause}
use Rattle.store_reading.specs.declared.fault.ReadFault.{ReadFault}
use Rattle.store_reading.specs.declared.fault.ReadFault.TheVariants.{Write}
use Rattle.store_upkeep.specs.Causes.{IsCountedFile, check_causes}
use Rattle.store_upkeep.specs.Damages.{AreAsTold, IsWholeOrListed}
use Rattle.store_upkeep.specs.declared.damage.DamagedFile.{DamagedFile}
use Rattle.store_engine.specs.Lines.{damage_lines}
use Rattle.store_engine.specs.Reading.{read_telling}

-- the status where all was read
pub record IsVerdictStatus (damaged : List DamagedFile) (status : ℕ) : Type 0 where
  pub none : length damaged ≡ 0 → status ≡ DONE
  pub some : 0 < length damaged → status ≡ REFUSED

-- all was read, and the line of each damaged file written: every other one is whole
pub record IsVerified (tells : Type 0) (files : Files) (damaged : List DamagedFile) (old new : OutputState) (status : ℕ) :
    Type 0 where
  pub verdict : IsVerdictStatus damaged status
  pub written : WroteAll old new (damage_lines damaged)
  pub listed : tells → (name : List ℕ) → IsWholeOrListed files damaged name

-- the lines on those that were found were written, but where the fault is that of the output, a part of them
abbrev pub WritesLines : ReadFault → OutputState → OutputState → List ℕ → Type 0
WritesLines Write old new lines = (sent : ℕ) × WrotePart old new lines sent
WritesLines fault old new lines = WroteAll old new lines

-- the fault is that of the output, or of a file that counts, of the folder or of memory
abbrev pub IsVerifyCause : Type 0 → Type 0 → Files → ReadFault → Type 0
IsVerifyCause tells failed files fault =
    (fault ≡ Write) ⊎ IsCause (check_causes failed (IsCountedFile tells files)) fault

-- What a verification does, whatever the folder and the devices do; `tells` says that the folder tells its files, `failed`
-- that it has failed. Each file that has a line has the damage that this tells.
pub record RanVerify (tells failed : Type 0) (files : Files) (w w_new n n_new : OutputState) (status : ℕ) : Type 0 where
  pub damaged : List DamagedFile
  pub as_told : tells → AreAsTold files damaged
  pub ending : Option ReadFault
  pub outcome : EndsAs read_telling (IsVerified tells files damaged w w_new)
      (λ fault. WritesLines fault w w_new (damage_lines damaged)) ending n n_new status
  pub cause : IfSome ending (IsVerifyCause tells failed files)
