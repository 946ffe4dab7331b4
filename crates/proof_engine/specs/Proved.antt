-- What `prove` does.
use Rattle.std.specs.Prelude.{◌≡◌, ℕ, ◌<◌, List, Option, None, Some, Result, Ok, Err, length, take}
use Rattle.std.specs.Io.KnownBytes.{Appends}
use Rattle.octet_devices.specs.Device.{InputState, OutputState}
use Rattle.archive_text.specs.Entries.{Entry}
use Rattle.archive_sets.specs.Failures.{ReadFailures, WriteFailures}
use Rattle.archive_sets.specs.Selected.{IsReadAt}
use Rattle.archive_sets.specs.declared.fault.SelectFault.{SelectFault}
use Rattle.archive_sets.specs.declared.fault.SelectFault.TheVariants.{Write}
use Rattle.driver.specs.Devices.{Devices}
use Rattle.driver.specs.declared.status.TheConstants.{DONE}
use Rattle.driver.specs.Ended.{EndsAs, Telling}
use Rattle.set_engine.specs.Selecting.{is_no_archive, select_line, select_status}
use Rattle.proof_engine.specs.Asking.{AskingFailures, HasAsked, IsNotAsked, asking_line, asking_status, is_no_record}
use Rattle.proof_engine.specs.Proving.{HasProofs}
use Rattle.proof_engine.specs.declared.asking.AskingFault.{AskingFault}
use Rattle.proof_engine.specs.declared.prove.ProveFault.{ProveFault}
use Rattle.proof_engine.specs.declared.prove.ProveFault.TheVariants.{Records, Archive}

-- records were read, then an archive, each to its end, and the text of their proofs was written
pub record Proved (q r d e : InputState) (taken_old taken_new : Option (List ℕ)) : Type 0 where
  pub rs : List Entry
  pub text : List ℕ
  pub asked : HasAsked q r rs
  pub proofs : HasProofs rs d e text
  pub written : Appends taken_old taken_new text

-- records were read, and then a fault stopped it. The writer took so many octets of the text of the proofs, and not all;
-- or the archive was not read to its end, or memory ran out, and the writer was not called
abbrev pub IsStopped : SelectFault → List Entry → InputState → InputState → OutputState → OutputState → Type 0
IsStopped (Write sent) rs d e w v =
    (text : List ℕ) × HasProofs rs d e text × (sent < length text) × Appends w.taken v.taken (take sent text)
IsStopped fault rs d e w v = (xs : List Entry) × IsReadAt fault d e xs × (v ≡ w)

-- a fault stopped it; if the records were not read, no other device was called
abbrev pub Stopped : ProveFault → InputState → InputState → InputState → InputState → OutputState → OutputState → Type 0
Stopped (Records fault) q r d e w v = IsNotAsked fault q r × (e ≡ d) × (v ≡ w)
Stopped (Archive fault) q r d e w v = (rs : List Entry) × HasAsked q r rs × IsStopped fault rs d e w v

-- ---- what is told

abbrev pub prove_line : ProveFault → List ℕ
prove_line (Records fault) = asking_line fault
prove_line (Archive fault) = select_line fault

abbrev pub prove_status : ProveFault → ℕ
prove_status (Records fault) = asking_status fault
prove_status (Archive fault) = select_status fault

abbrev pub is_refusal : ProveFault → Type 0
is_refusal (Records fault) = is_no_record fault
is_refusal (Archive fault) = is_no_archive fault

abbrev pub prove_telling : Telling ProveFault
prove_telling = record { line = prove_line; status = prove_status; takes_memory = is_refusal }

-- the fault of the records in it, and that of the archive and the writer
abbrev pub asking_in : {X : Type 0} → Result X ProveFault → Result ℕ AskingFault
asking_in (Err (Records fault)) = Err fault
asking_in r = Ok 0

abbrev pub select_in : {X : Type 0} → Result X ProveFault → Result ℕ SelectFault
select_in (Err (Archive fault)) = Err fault
select_in r = Ok 0

-- each device's fault is told just where it failed
pub record ProveFailures {X : Type 0} (result : Result X ProveFault) (q r d e : InputState) (w v : OutputState) : Type 0
  where
    pub records : AskingFailures (asking_in result) q.failures r.failures
    pub reader : ReadFailures (select_in result) d.failures e.failures
    pub writer : WriteFailures (select_in result) w.failures v.failures

-- what it ended with
abbrev pub result_of : Option ProveFault → Result ℕ ProveFault
result_of None = Ok 0
result_of (Some fault) = Err fault

-- the proofs of the records were written
abbrev pub IsProved : InputState → InputState → Devices → Devices → ℕ → Type 0
IsProved q r old new status = (status ≡ DONE) × Proved q r old.input new.input old.output.taken new.output.taken

-- what `prove` does, whatever the devices do
pub record RanProve (q r : InputState) (old new : Devices) (status : ℕ) : Type 0 where
  pub ending : Option ProveFault
  pub outcome : EndsAs prove_telling (IsProved q r old new)
      (λ fault. Stopped fault q r old.input new.input old.output new.output) ending old.diagnostics new.diagnostics
      status
  -- a device failed exactly where that is told
  pub failures : ProveFailures (result_of ending) q r old.input new.input old.output new.output
