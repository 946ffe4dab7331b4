-- What `digest` does.
use Rattle.std.specs.Prelude.{◌≡◌, ℕ, Option, None, Some}
use Rattle.archive_digest.specs.Digested.{Digested, Stopped}
use Rattle.archive_digest.specs.DigestedWith.{DigestedWith, StoppedWith}
use Rattle.archive_digest.specs.declared.roots.Roots.TheVariants.{With}
use Rattle.archive_text.specs.declared.period.Period.{Period}
use Rattle.archive_sets.specs.Failures.{TellsFailures}
use Rattle.archive_sets.specs.declared.fault.SelectFault.{SelectFault}
use Rattle.archive_sets.specs.declared.fault.SelectFault.TheVariants.{Memory}
use Rattle.driver.specs.Devices.{Devices}
use Rattle.driver.specs.declared.status.TheConstants.{DONE}
use Rattle.driver.specs.Ended.{EndsAs}
use Rattle.set_engine.specs.Selecting.{result_of, select_telling}

-- the digest of the archive on the input was written
abbrev pub IsDigested : Period → Devices → Devices → ℕ → Type 0
IsDigested period old new status =
    (status ≡ DONE) × (n : ℕ) × Digested period old.input new.input old.output.taken new.output.taken n

-- the same with a root at the end of each line
abbrev pub IsRootedDigest : Period → Devices → Devices → ℕ → Type 0
IsRootedDigest period old new status =
    (status ≡ DONE) × (n : ℕ) × DigestedWith With period old.input new.input old.output.taken new.output.taken n

-- what a digest does, whatever the devices do
pub record RanDigest (period : Period) (old new : Devices) (status : ℕ) : Type 0 where
  pub ending : Option SelectFault
  pub outcome : EndsAs select_telling (IsDigested period old new)
      (λ fault. Stopped period fault old.input new.input old.output.taken new.output.taken) ending old.diagnostics
      new.diagnostics status
  -- a device failed exactly where that is told
  pub failures : TellsFailures (result_of ending) old.input new.input old.output new.output
  -- memory ran out before anything was touched
  pub memory : ending ≡ Some Memory → (new.input ≡ old.input) × (new.output ≡ old.output)

-- what a digest with roots does, whatever the devices do
pub record RanRootedDigest (period : Period) (old new : Devices) (status : ℕ) : Type 0 where
  pub ending : Option SelectFault
  pub outcome : EndsAs select_telling (IsRootedDigest period old new)
      (λ fault. StoppedWith With period fault old.input new.input old.output.taken new.output.taken) ending
      old.diagnostics new.diagnostics status
  -- a device failed exactly where that is told
  pub failures : TellsFailures (result_of ending) old.input new.input old.output new.output
  -- memory ran out before anything was touched
  pub memory : ending ≡ Some Memory → (new.input ≡ old.input) × (new.output ≡ old.output)
