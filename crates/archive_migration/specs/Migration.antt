-- What an old archive gives.
use Rattle.std.specs.Prelude.{◌≡◌, ◌↔◌, ℕ, ℤ, List, ◌⊎◌}
use Rattle.std.specs.List.{AllByRecursion}
use Rattle.std.specs.List.Sorted.{IsPermutation}
use Rattle.syslog_value.specs.Parts.{IsById, Parts}
use Rattle.archive_text.specs.Entries.{Entry, Has, IsEntryOf}
use Rattle.archive_text.specs.Sets.{IsAmong}
use Rattle.archive_text.specs.Text.{text_of}
use Rattle.archive_text.specs.declared.limits.TheConstants.{ENTRY_MAX}
use Rattle.archive_migration.specs.OldEntries.{IsOldArchive, IsOldEntryOf}

-- the same record with its elements by id
pub record IsNewForm (old new : Parts ℤ) : Type 0 where
  pub priority : new.priority ≡ old.priority
  pub time : new.time ≡ old.time
  pub hostname : new.hostname ≡ old.hostname
  pub app_name : new.app_name ≡ old.app_name
  pub proc_id : new.proc_id ≡ old.proc_id
  pub msg_id : new.msg_id ≡ old.msg_id
  pub elements : IsPermutation old.elements new.elements
  pub by_id : IsById new.elements
  pub message : new.message ≡ old.message

-- the migrated set: the new form of each record, and no other
pub record IsMigration (olds news : List (Parts ℤ)) : Type 0 where
  pub all : AllByRecursion (λ r. (q : Parts ℤ) × IsAmong news q × IsNewForm r q) olds
  pub only : AllByRecursion (λ q. (r : Parts ℤ) × IsAmong olds r × IsNewForm r q) news

-- the entry of the new form of the record of an old entry
abbrev pub IsNewEntryOf : Entry → Entry → Type 0
IsNewEntryOf o e = (r : Parts ℤ) × (q : Parts ℤ) × IsOldEntryOf r o × IsNewForm r q × IsEntryOf q e

-- the entry of the new form is added, unless it is there
abbrev pub AddsNew : Entry → List Entry → List Entry → Type 0
AddsNew o before after = (e : Entry) → Has after e ↔ (IsNewEntryOf o e ⊎ Has before e)

-- the entry of the new form of the record of one of these old entries
abbrev pub IsMigratedOf : List Entry → Entry → Type 0
IsMigratedOf olds e = (o : Entry) × Has olds o × IsNewEntryOf o e

-- these entries and those of the new forms, and no other
abbrev pub AddsMigrated : List Entry → List Entry → List Entry → Type 0
AddsMigrated olds before after = (e : Entry) → Has after e ↔ (IsMigratedOf olds e ⊎ Has before e)

-- the text is an old archive, and the new forms of its records are added
abbrev pub Migrates : List ℕ → List Entry → List Entry → Type 0
Migrates text before after =
    (olds : List Entry) × IsOldArchive ENTRY_MAX olds × (text ≡ text_of olds) × AddsMigrated olds before after
