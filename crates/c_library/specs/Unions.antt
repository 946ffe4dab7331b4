-- The union of two archives.
use Rattle.std.specs.Prelude.{◌≡◌, ℕ, List, ◌⊎◌}
use Rattle.archive_text.specs.Entries.{Entry}
use Rattle.archive_text.specs.Faults.{IsArchiveFault}
use Rattle.archive_text.specs.Sets.{IsUnionOfEntries}
use Rattle.archive_text.specs.Text.{IsArchive, text_of}
use Rattle.archive_text.specs.declared.limits.TheConstants.{ENTRY_MAX}
use Rattle.c_library.specs.Faults.{Tells, archive_fault, memory_fault}
use Rattle.c_library.specs.declared.fault.SyslogboxFault.{SyslogboxFault}

-- the text of an archive of these entries
pub record IsArchiveOf (es : List Entry) (text : List ℕ) : Type 0 where
  pub archive : IsArchive ENTRY_MAX es
  pub text_is : text ≡ text_of es

-- the text of the archive of the records of both
pub record UnionOf (left right text : List ℕ) : Type 0 where
  pub left_entries : List Entry
  pub right_entries : List Entry
  pub entries : List Entry
  pub left_is : IsArchiveOf left_entries left
  pub right_is : IsArchiveOf right_entries right
  pub union : IsUnionOfEntries left_entries right_entries entries
  pub text_is : IsArchiveOf entries text

-- the text on this side is no archive, for this fault; or an allocation was refused
abbrev pub IsNoArchive : ℕ → List ℕ → SyslogboxFault → Type 0
IsNoArchive side text told = Tells (archive_fault side) (IsArchiveFault ENTRY_MAX text) told ⊎ (told ≡ memory_fault)

-- the left text is no archive; or it is one, and the right text is none; or an allocation was refused
abbrev pub IsNoUnion : List ℕ → List ℕ → SyslogboxFault → Type 0
IsNoUnion left right told =
    Tells (archive_fault 10) (IsArchiveFault ENTRY_MAX left) told
    ⊎ (((es : List Entry) × IsArchiveOf es left × Tells (archive_fault 11) (IsArchiveFault ENTRY_MAX right) told)
    ⊎ (told ≡ memory_fault))
