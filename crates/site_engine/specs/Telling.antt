-- How the end of an exchange is told.
use Rattle.std.specs.Prelude.{◌≡◌, ◌≢◌, ◌⊎◌, ℕ, List, Option, None, Some}
use Rattle.octet_devices.specs.Device.{OutputState}
use Rattle.driver.specs.Devices.{Reports}
use Rattle.driver.specs.declared.status.TheConstants.{DONE, FAULT, NO_MEMORY}
use Rattle.driver.specs.Ended.{Tells, TellsLine}
use Rattle.store_engine.specs.Reading.{read_telling}
use Rattle.store_site.specs.declared.fault.SetReadFault.{SetReadFault}
use Rattle.store_site.specs.declared.fault.SetReadFault.TheVariants.{Read, NoArchive, TooMuch, Memory}
use Rattle.site_engine.specs.Lines.{answer_line, summary_line, summary_status}
use Rattle.site_engine.specs.declared.fault.SiteFault.{SiteFault}
use Rattle.site_engine.specs.declared.fault.SiteFault.TheVariants.{Set, Pipe, Stopped, Add}
use Rattle.site_engine.specs.declared.fault.SiteFault.TheVariants.{Memory as site_Memory}
use Rattle.site_engine.specs.declared.summary.Summary.{Summary}

-- a line is told, and the status is that of a fault or of want of memory
pub record TellsOther (n n_new : OutputState) (result : ℕ) : Type 0 where
  pub line : List ℕ
  pub status : ℕ
  pub kind : (status ≡ FAULT) ⊎ (status ≡ NO_MEMORY)
  pub reports : Reports line status n n_new result

-- a fault is told: of reading the own store as `read` tells it
abbrev pub TellsFault : SiteFault → OutputState → OutputState → ℕ → Type 0
TellsFault (Set (Read fault)) n n_new result = Tells read_telling fault n n_new result
TellsFault (Set NoArchive) n n_new result = TellsOther n n_new result
TellsFault (Set TooMuch) n n_new result = TellsOther n n_new result
TellsFault (Set Memory) n n_new result = TellsOther n n_new result
TellsFault (Pipe fault) n n_new result = TellsOther n n_new result
TellsFault (Stopped stopped) n n_new result = TellsOther n n_new result
TellsFault (Add fault) n n_new result = TellsOther n n_new result
TellsFault site_Memory n n_new result = TellsOther n n_new result

-- what crossed is told where the exchange came to its end, or else why it did not
abbrev pub TellsEnd : (Summary → List ℕ) → OutputState → OutputState → ℕ → Type 0
TellsEnd line n n_new result =
    ((s : Summary) × TellsLine (line s) (summary_status s) n n_new result)
    ⊎ ((fault : SiteFault) × TellsFault fault n n_new result)
