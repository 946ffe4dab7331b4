-- The devices of a run.
use Rattle.std.specs.Prelude.{◌≡◌, ℕ, ◌+◌, ◌^◌, ◌<◌, ◌⊎◌, List, Option, Some, None, ⊤}
use Rattle.octet_devices.specs.Device.{InputState, OutputState, AreSmall}
use Rattle.octet_devices.specs.Transfers.{WroteAll}
use Rattle.octet_devices.specs.declared.loops.TheConstants.{READER_CALLS}
use Rattle.driver.specs.declared.status.TheConstants.{FAULT}

-- an input, an output, and what the diagnostics are written to
pub record Devices : Type 0 where
  pub input : InputState
  pub output : OutputState
  pub diagnostics : OutputState

abbrev pub devices : InputState → OutputState → OutputState → Devices
devices input output diagnostics = record { input = input; output = output; diagnostics = diagnostics }

-- an input failed
abbrev pub InputFailed : InputState → InputState → Type 0
InputFailed old new = AreSmall old → old.failures < new.failures

-- an input gave no end in so many calls
pub record IsEndlessIn (most : ℕ) (old new : InputState) : Type 0 where
  pub calls : AreSmall old → new.calls ≡ old.calls + most
  pub no_failure : new.failures ≡ old.failures
  pub no_end : new.ends ≡ old.ends

-- nor in the most calls of a command whose input has a limit
abbrev pub IsEndless : InputState → InputState → Type 0
IsEndless old new = IsEndlessIn READER_CALLS old new

-- an output failed
abbrev pub OutputFailed : OutputState → OutputState → Type 0
OutputFailed old new = old.failures < 2 ^ 63 → old.failures < new.failures

-- an output did not fail
abbrev pub IsSound : OutputState → OutputState → Type 0
IsSound old new = new.failures ≡ old.failures

-- no device failed
pub record NoneFailed (old new : Devices) : Type 0 where
  pub input : new.input.failures ≡ old.input.failures
  pub output : IsSound old.output new.output
  pub diagnostics : IsSound old.diagnostics new.diagnostics

-- these were written, and neither device failed
pub record Wrote (old new : Devices) (output diagnostics : List ℕ) : Type 0 where
  pub to_output : WroteAll old.output new.output output
  pub to_diagnostics : WroteAll old.diagnostics new.diagnostics diagnostics

-- this is what an input has left, where it reports it
abbrev pub IsLeft : Option (List ℕ) → List ℕ → Type 0
IsLeft None input = ⊤
IsLeft (Some xs) input = input ≡ xs

-- a line was written and the status is this; or it could not be written, and the status is that of a fault
abbrev pub Reports : List ℕ → ℕ → OutputState → OutputState → ℕ → Type 0
Reports line status old new result =
    ((result ≡ status) × WroteAll old new line) ⊎ ((result ≡ FAULT) × OutputFailed old new)

-- the status of a fault comes wherever a device failed, and only there or where the input gave no end
pub record FaultsAsTold (r r_new : InputState) (w w_new n n_new : OutputState) (status : ℕ) : Type 0 where
  pub cause : AreSmall r → w.failures < 2 ^ 63 → n.failures < 2 ^ 63 → status ≡ FAULT
      → (r.failures < r_new.failures) ⊎ ((w.failures < w_new.failures) ⊎ ((n.failures < n_new.failures)
      ⊎ ((r_new.calls ≡ r.calls + READER_CALLS) × (r_new.ends ≡ r.ends))))
  pub failed : n.failures < n_new.failures → status ≡ FAULT
  pub read_failed : r.failures < r_new.failures → status ≡ FAULT
  pub write_failed : w.failures < w_new.failures → status ≡ FAULT
