-- Archives as finite sets of records, each given by a list of its members.
use Rattle.std.specs.Prelude.{◌≡◌, ℕ, ℤ, ◌↔◌, List, [], ◌∷◌, ◌⊎◌}
use Rattle.std.specs.List.{AllByRecursion}
use Rattle.syslog_value.specs.Parts.{Parts}
use Rattle.archive_text.specs.Entries.{Entry, Has, IsEntryOf}
use Rattle.archive_text.specs.Text.{IsArchive, text_of}

-- a record is one of the list
abbrev pub IsAmong : List (Parts ℤ) → Parts ℤ → Type 0
IsAmong [] r = ⊥
IsAmong (q ∷ qs) r = (q ≡ r) ⊎ IsAmong qs r

-- two lists have the same members, and so are one set
abbrev pub AreSame : List (Parts ℤ) → List (Parts ℤ) → Type 0
AreSame rs qs = (r : Parts ℤ) → IsAmong rs r ↔ IsAmong qs r

-- the entries of a set: of each of its records, and of no other
pub record AreEntriesOf (records : List (Parts ℤ)) (es : List Entry) : Type 0 where
  pub all : AllByRecursion (λ r. (e : Entry) × Has es e × IsEntryOf r e) records
  pub only : AllByRecursion (λ e. (r : Parts ℤ) × IsAmong records r × IsEntryOf r e) es

-- the entries of two lists, and no other
abbrev pub IsUnionOfEntries : List Entry → List Entry → List Entry → Type 0
IsUnionOfEntries xs ys zs = (e : Entry) → Has zs e ↔ (Has xs e ⊎ Has ys e)

-- the text of a set: over the strictly ascending list of its entries, none above the limit
pub record ArchiveText (most : ℕ) (records : List (Parts ℤ)) (text : List ℕ) : Type 0 where
  pub entries : List Entry
  pub archive : IsArchive most entries
  pub members : AreEntriesOf records entries
  pub text_is : text ≡ text_of entries
