-- How often devices failed in a selection.
use Rattle.std.specs.Prelude.{◌≡◌, ℕ, ◌^◌, ◌<◌, ◌⊎◌, Result, Err}
use Rattle.octet_devices.specs.Device.{InputState, OutputState, count_on}
use Rattle.archive_sets.specs.declared.fault.SelectFault.{SelectFault}
use Rattle.archive_sets.specs.declared.fault.SelectFault.TheVariants.{Read, Write}

-- the reader failed at this fault alone
abbrev pub ReadFailures : {X : Type 0} → Result X SelectFault → ℕ → ℕ → Type 0
ReadFailures (Err Read) old new = new ≡ count_on old
ReadFailures r old new = new ≡ old

-- the writer failed at this fault alone
abbrev pub WriteFailures : {X : Type 0} → Result X SelectFault → ℕ → ℕ → Type 0
WriteFailures (Err (Write sent)) old new = old < 2 ^ 63 → old < new
WriteFailures r old new = new ≡ old

-- the reader failed where it is told, or where the writer failed then as what was held back was written; else it
-- did not
abbrev pub ReadFailed : {X : Type 0} → Result X SelectFault → ℕ → ℕ → Type 0
ReadFailed (Err Read) old new = new ≡ count_on old
ReadFailed (Err (Write sent)) old new = (new ≡ old) ⊎ (new ≡ count_on old)
ReadFailed r old new = new ≡ old

-- each device's fault is told just where it failed
pub record TellsFailures {X : Type 0} (r : Result X SelectFault) (d e : InputState) (a b : OutputState) : Type 0 where
  pub reader : ReadFailed r d.failures e.failures
  pub writer : WriteFailures r a.failures b.failures
