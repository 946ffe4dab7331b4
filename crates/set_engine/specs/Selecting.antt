-- What `select` does.
use Rattle.std.specs.Prelude.{◌≡◌, ℕ, List, Option, None, Some, Result, Ok, Err, codes}
use Rattle.archive_text.specs.Entries.{Entry}
use Rattle.archive_sets.specs.Failures.{TellsFailures}
use Rattle.archive_sets.specs.Selected.{Selected, Stopped}
use Rattle.archive_sets.specs.declared.fault.SelectFault.{SelectFault}
use Rattle.archive_sets.specs.declared.fault.SelectFault.TheVariants.{Archive, Read, Endless, Write, Memory}
use Rattle.archive_reports.specs.FaultLines.{fault_words}
use Rattle.driver.specs.Devices.{Devices}
use Rattle.driver.specs.declared.status.TheConstants.{DONE, FAULT, NO_MEMORY, REFUSED}
use Rattle.driver.specs.Ended.{EndsAs, Telling}

abbrev pub select_line : SelectFault → List ℕ
select_line (Archive fault) = fault_words fault
select_line Read = codes "read fault\n"
select_line Endless = codes "endless input\n"
select_line (Write sent) = codes "write fault\n"
select_line Memory = codes "want of memory\n"

abbrev pub select_status : SelectFault → ℕ
select_status (Archive fault) = REFUSED
select_status Read = FAULT
select_status Endless = FAULT
select_status (Write sent) = FAULT
select_status Memory = NO_MEMORY

abbrev pub is_no_archive : SelectFault → Type 0
is_no_archive (Archive fault) = Unit {0}
is_no_archive Read = ⊥
is_no_archive Endless = ⊥
is_no_archive (Write sent) = ⊥
is_no_archive Memory = ⊥

abbrev pub select_telling : Telling SelectFault
select_telling = record { line = select_line; status = select_status; takes_memory = is_no_archive }

-- what a selection ended with
abbrev pub result_of : Option SelectFault → Result ℕ SelectFault
result_of None = Ok 0
result_of (Some fault) = Err fault

-- what is selected of the archive on the input was written
abbrev pub IsSelected : (Entry → Type 0) → Devices → Devices → ℕ → Type 0
IsSelected meets old new status =
    (status ≡ DONE) × (n : ℕ) × Selected meets old.input new.input old.output.taken new.output.taken n

-- what a selection does, whatever the devices do
pub record RanSelect (meets : Entry → Type 0) (old new : Devices) (status : ℕ) : Type 0 where
  pub ending : Option SelectFault
  pub outcome : EndsAs select_telling (IsSelected meets old new)
      (λ fault. Stopped meets fault old.input new.input old.output.taken new.output.taken) ending old.diagnostics
      new.diagnostics status
  -- a device failed exactly where that is told
  pub failures : TellsFailures (result_of ending) old.input new.input old.output new.output
  -- memory ran out before anything was touched
  pub memory : ending ≡ Some Memory → (new.input ≡ old.input) × (new.output ≡ old.output)
