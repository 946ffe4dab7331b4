-- The text of an old archive.
use Rattle.std.specs.Prelude.{◌≡◌, ℕ, ℤ, ◌≤◌, List, ◌++◌, length}
use Rattle.std.specs.List.{AllByRecursion}
use Rattle.syslog_frame.specs.Frames.{CanCarry}
use Rattle.syslog_frame.specs.declared.framing.Framing.TheVariants.{Counted}
use Rattle.syslog_value.specs.Parts.{Parts}
use Rattle.archive_text.specs.Entries.{Entry, Has}
use Rattle.archive_text.specs.Sets.{IsAmong}
use Rattle.archive_text.specs.Text.{entry_text, text_of}
use Rattle.archive_migration.specs.OldEntries.{IsOldArchive, IsOldEntry, IsOldEntryOf}

-- the text begins with this old entry, and so it goes on
pub record BeginsWithOldEntry (most : ℕ) (text : List ℕ) (e : Entry) (rest : List ℕ) : Type 0 where
  pub entry : IsOldEntry e
  pub fits : length e.octets ≤ most
  pub carries : CanCarry Counted e.octets
  pub parts : text ≡ entry_text e ++ rest

-- the old entries of a set: of each of its records, and of no other
pub record AreOldEntriesOf (records : List (Parts ℤ)) (es : List Entry) : Type 0 where
  pub all : AllByRecursion (λ r. (e : Entry) × Has es e × IsOldEntryOf r e) records
  pub only : AllByRecursion (λ e. (r : Parts ℤ) × IsAmong records r × IsOldEntryOf r e) es

-- the old text of a set: over the strictly ascending list of its old entries, none above the limit
pub record OldText (most : ℕ) (records : List (Parts ℤ)) (text : List ℕ) : Type 0 where
  pub entries : List Entry
  pub archive : IsOldArchive most entries
  pub members : AreOldEntriesOf records entries
  pub text_is : text ≡ text_of entries
