-- What becomes of the own records.
use Rattle.std.specs.Prelude.{◌⊎◌, List}
use Rattle.archive_text.specs.Entries.{Entry, Has}
use Rattle.archive_text.specs.Text.{IsArchive}
use Rattle.archive_text.specs.declared.limits.TheConstants.{ENTRY_MAX}

-- none is lost, and each that came is one of these
pub record GrowsBy (P : Entry → Type 0) (old new : List Entry) : Type 0 where
  pub archive : IsArchive ENTRY_MAX new
  pub keeps : (x : Entry) → Has old x → Has new x
  pub from : (x : Entry) → Has new x → Has old x ⊎ P x
