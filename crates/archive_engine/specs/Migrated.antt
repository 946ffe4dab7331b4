-- What comes of an old archive.
use Rattle.std.specs.Prelude.{◌≡◌, ◌⊎◌, ℕ, List, [], Option, None, Some, true, codes}
use Rattle.octet_devices.specs.Transfers.{ReadsFew, WrotePart}
use Rattle.archive_text.specs.Entries.{Entry}
use Rattle.archive_text.specs.Text.{IsArchive, text_of}
use Rattle.archive_text.specs.declared.fault.ArchiveFault.{ArchiveFault}
use Rattle.archive_text.specs.declared.limits.TheConstants.{ENTRY_MAX}
use Rattle.archive_migration.specs.Migration.{Migrates}
use Rattle.archive_migration.specs.OldFaults.{IsOldArchiveFault}
use Rattle.frame_engine.specs.Converted.{goes_out}
use Rattle.driver.specs.Devices.{Devices, InputFailed, IsEndless, IsLeft, OutputFailed, Reports, Wrote}
use Rattle.driver.specs.Effects.{Done, status_of}
use Rattle.driver.specs.declared.status.TheConstants.{FAULT, NO_MEMORY}
use Rattle.driver.specs.declared.stopped.Stopped.{Stopped}
use Rattle.driver.specs.declared.stopped.Stopped.TheVariants.{Diagnostics, Endless, Memory, Read, Write}
use Rattle.archive_engine.specs.Answered.{WritesPrefixOf}
use Rattle.archive_reports.specs.FaultLines.{fault_line}

-- a refusal whose line is noted
abbrev pub noted_fault : List ℕ → ArchiveFault → Done
noted_fault name fault = record { refused = true; output = []; diagnostics = fault_line name fault }

-- the text of the migrated set goes out; or the text is no old archive, which is noted
abbrev pub MigrateDone : List ℕ → Done → Type 0
MigrateDone text d =
    ((es : List Entry) × IsArchive ENTRY_MAX es × Migrates text [] es × (d ≡ goes_out (text_of es)))
    ⊎ ((fault : ArchiveFault) × IsOldArchiveFault ENTRY_MAX text fault × (d ≡ noted_fault (codes "old") fault))

-- what comes of the whole old archive was written
pub record Migrated (old new : Devices) (status : ℕ) : Type 0 where
  pub input : List ℕ
  pub done : Done
  pub is_input : IsLeft old.input.left input
  pub comes : MigrateDone input done
  pub wrote : Wrote old new done.output done.diagnostics
  pub no_failure : new.input.failures ≡ old.input.failures
  pub status_is : status ≡ status_of done

-- how a migration ended: with what comes of the old archive; or by a stop, which a line tells
abbrev pub MigrateEndsAs : Option Stopped → Devices → Devices → ℕ → Type 0
MigrateEndsAs None old new status = Migrated old new status
MigrateEndsAs (Some Read) old new status =
    Reports (codes "old read fault\n") FAULT old.diagnostics new.diagnostics status
    × InputFailed old.input new.input × (new.output ≡ old.output)
MigrateEndsAs (Some Endless) old new status =
    Reports (codes "old endless input\n") FAULT old.diagnostics new.diagnostics status
    × IsEndless old.input new.input × (new.output ≡ old.output)
MigrateEndsAs (Some Write) old new status =
    Reports (codes "write fault\n") FAULT old.diagnostics new.diagnostics status
    × (new.input.failures ≡ old.input.failures)
    × ((input : List ℕ) × (d : Done) × (sent : ℕ) × IsLeft old.input.left input × MigrateDone input d
    × WrotePart old.output new.output d.output sent)
MigrateEndsAs (Some Diagnostics) old new status =
    (status ≡ FAULT) × OutputFailed old.diagnostics new.diagnostics × (new.input.failures ≡ old.input.failures)
    × (new.output ≡ old.output)
MigrateEndsAs (Some Memory) old new status =
    Reports (codes "want of memory\n") NO_MEMORY old.diagnostics new.diagnostics status
    × (new.input.failures ≡ old.input.failures) × (new.output ≡ old.output)

-- what a migration does, whatever the devices do
pub record RanMigrate (old new : Devices) (status : ℕ) : Type 0 where
  pub ending : Option Stopped
  pub outcome : MigrateEndsAs ending old new status
  pub begins : WritesPrefixOf MigrateDone old.input.left old.output.taken new.output.taken
  pub few : ReadsFew old.input new.input
