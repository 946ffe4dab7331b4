-- How a command ends that a fault may stop.
use Rattle.std.specs.Prelude.{◌≡◌, ◌⊎◌, ℕ, List, Option, None, Some, codes}
use Rattle.octet_devices.specs.Device.{OutputState}
use Rattle.driver.specs.Devices.{Reports}
use Rattle.driver.specs.declared.status.TheConstants.{NO_MEMORY}

-- what a command says of its faults: the line on each, its exit status, and whether its line takes memory
pub record Telling (F : Type 0) : Type 1 where
  pub line : F → List ℕ
  pub status : F → ℕ
  pub takes_memory : F → Type 0

-- a line is told, or that memory ran out for it
abbrev pub TellsLine : List ℕ → ℕ → OutputState → OutputState → ℕ → Type 0
TellsLine line status n n_new result =
    Reports line status n n_new result ⊎ Reports (codes "want of memory\n") NO_MEMORY n n_new result

-- a fault is told by its line, or that memory ran out for it
abbrev pub Tells : {F : Type 0} → Telling F → F → OutputState → OutputState → ℕ → Type 0
Tells T fault n n_new result =
    Reports (T.line fault) (T.status fault) n n_new result
    ⊎ (T.takes_memory fault × Reports (codes "want of memory\n") NO_MEMORY n n_new result)

-- how it ended: it is done, with this status, and nothing was told; or it was stopped by a fault, which is told
abbrev pub EndsAs : {F : Type 0} → Telling F → (ℕ → Type 0) → (F → Type 0) → Option F → OutputState → OutputState → ℕ
    → Type 0
EndsAs T IsDone Stops None n n_new status = IsDone status × (n_new ≡ n)
EndsAs T IsDone Stops (Some fault) n n_new status = Stops fault × Tells T fault n n_new status
