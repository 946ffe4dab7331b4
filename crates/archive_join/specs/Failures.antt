-- How often devices failed as archives were joined.
use Rattle.std.specs.Prelude.{◌≡◌, ℕ, zero, suc, ◌^◌, ◌<◌, ◌⊎◌, List, [], ◌∷◌, map, Result, Err, IsErrOf}
use Rattle.octet_devices.specs.Device.{InputState, OutputState, count_on}
use Rattle.archive_join.specs.declared.fault.JoinFault.{JoinFault}
use Rattle.archive_join.specs.declared.fault.JoinFault.TheVariants.{Memory, Read, Write}

-- how often each reader failed
abbrev pub failures_of : List InputState → List ℕ
failures_of ds = map (λ (d : InputState). d.failures) ds

-- one failure more of the reader of this number, and none of the others
abbrev pub failed_at : ℕ → List ℕ → List ℕ
failed_at input [] = []
failed_at zero (n ∷ ns) = count_on n ∷ ns
failed_at (suc input) (n ∷ ns) = n ∷ failed_at input ns

-- a reader failed at this fault alone
abbrev pub ReadFailures : {X : Type 0} → Result X JoinFault → List ℕ → List ℕ → Type 0
ReadFailures (Err (Read input)) old new = new ≡ failed_at input old
ReadFailures r old new = new ≡ old

-- the writer failed at this fault alone
abbrev pub WriteFailures : {X : Type 0} → Result X JoinFault → ℕ → ℕ → Type 0
WriteFailures (Err (Write sent)) old new = old < 2 ^ 63 → old < new
WriteFailures r old new = new ≡ old

-- the reader failed that is told; where the writer failed, a reader may have failed before, as what was held back was
-- written then; else none did
abbrev pub ReadFailed : {X : Type 0} → Result X JoinFault → List ℕ → List ℕ → Type 0
ReadFailed (Err (Read input)) old new = new ≡ failed_at input old
ReadFailed (Err (Write sent)) old new = (new ≡ old) ⊎ ((input : ℕ) × (new ≡ failed_at input old))
ReadFailed r old new = new ≡ old

-- each device's fault is told just where it failed
pub record TellsFailures {X : Type 0} (r : Result X JoinFault) (ds es : List InputState) (a b : OutputState) : Type 0 where
  pub readers : ReadFailed r (failures_of ds) (failures_of es)
  pub writer : WriteFailures r a.failures b.failures

-- the fault is one of an input: a reader's that failed, or that of an archive
pub record IsOfInputs {X : Type 0} (r : Result X JoinFault) (ds es : List InputState) : Type 0 where
  pub told : ReadFailures r (failures_of ds) (failures_of es)
  pub not_writer : (n : ℕ) → WriteFailures r n n
  pub not_memory : ¬ (IsErrOf r Memory)

-- the fault is one of a device that failed, or that of an archive
pub record IsOfDevices {X : Type 0} (r : Result X JoinFault) (ds es : List InputState) (a b : OutputState) : Type 0 where
  pub read : ReadFailures r (failures_of ds) (failures_of es)
  pub written : WriteFailures r a.failures b.failures
  pub not_memory : ¬ (IsErrOf r Memory)
