-- What `count` does.
use Rattle.std.specs.Prelude.{◌≡◌, ℕ, Option, Some}
use Rattle.archive_counts.specs.Counted.{Counted, Stopped}
use Rattle.archive_counts.specs.declared.options.CountOptions.{CountOptions}
use Rattle.archive_sets.specs.Failures.{TellsFailures}
use Rattle.archive_sets.specs.declared.fault.SelectFault.{SelectFault}
use Rattle.archive_sets.specs.declared.fault.SelectFault.TheVariants.{Memory}
use Rattle.driver.specs.Devices.{Devices}
use Rattle.driver.specs.declared.status.TheConstants.{DONE}
use Rattle.driver.specs.Ended.{EndsAs}
use Rattle.set_engine.specs.Selecting.{result_of, select_telling}

-- the lines of the archive on the input were written
abbrev pub IsCounted : CountOptions → Devices → Devices → ℕ → Type 0
IsCounted options old new status =
    (status ≡ DONE) × Counted options old.input new.input old.output.taken new.output.taken

-- what a count does, whatever the devices do
pub record RanCount (options : CountOptions) (old new : Devices) (status : ℕ) : Type 0 where
  pub ending : Option SelectFault
  pub outcome : EndsAs select_telling (IsCounted options old new)
      (λ fault. Stopped options fault old.input new.input old.output.taken new.output.taken) ending old.diagnostics
      new.diagnostics status
  -- a device failed exactly where that is told
  pub failures : TellsFailures (result_of ending) old.input new.input old.output new.output
  -- memory ran out before anything was written
  pub memory : ending ≡ Some Memory → new.output ≡ old.output
