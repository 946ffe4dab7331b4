-- What a verification of a ledger does.
use Rattle.std.specs.Prelude.{◌≡◌, ◌⊎◌, ℕ, List, Option}
use Rattle.std.specs.Borrow.{Bor}
use Rattle.disk.specs.States.{Files}
use Rattle.octet_devices.specs.Device.{OutputState}
use Rattle.octet_devices.specs.Transfers.{WroteAll, WrotePart}
use Rattle.driver.specs.declared.status.TheConstants.{REFUSED}
use Rattle.driver.specs.Ended.{EndsAs, Tells}
use Rattle.store_reading.specs.Causes.{IsCause, open_causes}
use Rattle.store_reading.specs.declared.fault.ReadFault.{ReadFault}
use Rattle.store_reading.specs.declared.fault.ReadFault.TheVariants.{Write}
use Rattle.store_engine.specs.Reading.{read_telling}
use Rattle.ledger_engine.specs.Findings.{FindsNothing, IsFoundOf}
use Rattle.ledger_engine.specs.Known.{ledger_text}
use Rattle.ledger_engine.specs.Lines.{finding_text}
use Rattle.ledger_engine.specs.declared.findings.LedgerFindings.{LedgerFindings}

-- where nothing is found, nothing is written, and the status is that from before; else the lines on it are written
pub record IsTold (f : LedgerFindings) (before : ℕ) (old new : OutputState) (status : ℕ) : Type 0 where
  pub nothing : FindsNothing f → (status ≡ before) × (new ≡ old)
  pub some : ¬ (FindsNothing f) → (status ≡ REFUSED) × WroteAll old new (finding_text f)

-- before a fault nothing was written, or a part of the lines where the fault is that of the output
abbrev pub LeavesPart : ReadFault → LedgerFindings → OutputState → OutputState → Type 0
LeavesPart fault f old new = (new ≡ old) ⊎ ((fault ≡ Write) × ((sent : ℕ) × WrotePart old new (finding_text f) sent))

-- how the telling of what was found ends
abbrev pub TellsFound : LedgerFindings → ℕ → OutputState → OutputState → OutputState → OutputState → ℕ → Type 0
TellsFound f before w w_new n n_new status =
    (ending : Option ReadFault)
    × EndsAs read_telling (IsTold f before w w_new) (λ fault. LeavesPart fault f w w_new) ending n n_new status

-- it could not be found: nothing was written, and the fault is told, which has a cause
pub record FindsFault (failed : Type 0) (w w_new n n_new : OutputState) (status : ℕ) : Type 0 where
  pub fault : ReadFault
  pub told : Tells read_telling fault n n_new status
  pub cause : IsCause (open_causes failed ledger_text) fault
  pub unwritten : w_new ≡ w

-- What a verification of a ledger does, whatever the folder and the devices do; `tells` says that the folder tells its
-- files, `failed` that it has failed. What is found is so of these files, and is told; or it could not be found.
abbrev pub RanLedger : Type 0 → Type 0 → Files → Option (Bor (List ℕ)) → ℕ → OutputState → OutputState → OutputState
    → OutputState → ℕ → Type 0
RanLedger tells failed files against before w w_new n n_new status =
    FindsFault failed w w_new n n_new status
    ⊎ ((f : LedgerFindings) × (tells → IsFoundOf files against f) × TellsFound f before w w_new n n_new status)
