-- Entries whose elements are kept in the order of the octets.
use Rattle.std.specs.Prelude.{◌≡◌, ℕ, ℤ, ◌≤◌, List, length}
use Rattle.std.specs.List.{AllByRecursion}
use Rattle.syslog_value.specs.Parts.{Parts}
use Rattle.syslog_fields.specs.Canonical.{Canonical}
use Rattle.syslog_grammar.specs.Unsorted.{IsUnsortedRecord}
use Rattle.archive_text.specs.Entries.{Entry, IsAscending}

-- the entry of a record whose elements are in any order
pub record IsOldEntryOf (r : Parts ℤ) (e : Entry) : Type 0 where
  pub valid : IsUnsortedRecord r
  pub instant : e.instant ≡ r.time
  pub canonical : Canonical r e.octets

-- the entry of some such record
abbrev pub IsOldEntry : Entry → Type 0
IsOldEntry e = (r : Parts ℤ) × IsOldEntryOf r e

-- strictly ascending entries of such records, each of at most so many octets
pub record IsOldArchive (most : ℕ) (es : List Entry) : Type 0 where
  pub ascending : IsAscending es
  pub entries : AllByRecursion IsOldEntry es
  pub fits : AllByRecursion (λ e. length e.octets ≤ most) es
