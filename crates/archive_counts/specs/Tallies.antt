-- What is told of entries: how many they are, how many octets their archive has, and from when to when they are.
use Rattle.std.specs.Prelude.{◌≡◌, ℤ, ◌≤ℤ◌, List, Option, None, Some, length}
use Rattle.archive_text.specs.Entries.{Entry, Has}
use Rattle.archive_text.specs.Text.{text_of}
use Rattle.archive_counts.specs.declared.tally.Tally.{Tally}

-- some entry has this instant
pub record HasInstant (es : List Entry) (i : ℤ) : Type 0 where
  pub entry : Entry
  pub among : Has es entry
  pub is : entry.instant ≡ Some i

-- no entry has an instant
abbrev pub AreUndated : List Entry → Type 0
AreUndated es = (e : Entry) → Has es e → e.instant ≡ None

-- the earliest of their instants, and the latest; none where no entry has one
abbrev pub IsEarliest : List Entry → Option ℤ → Type 0
IsEarliest es None = AreUndated es
IsEarliest es (Some i) = HasInstant es i × ((j : ℤ) → HasInstant es j → i ≤ℤ j)

abbrev pub IsLatest : List Entry → Option ℤ → Type 0
IsLatest es None = AreUndated es
IsLatest es (Some i) = HasInstant es i × ((j : ℤ) → HasInstant es j → j ≤ℤ i)

-- the tally of these entries
pub record IsTallyOf (t : Tally) (es : List Entry) : Type 0 where
  pub records : t.records ≡ length es
  pub octets : t.octets ≡ length (text_of es)
  pub first : IsEarliest es t.first
  pub last : IsLatest es t.last
