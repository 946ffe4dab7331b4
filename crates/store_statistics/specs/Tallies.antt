-- What is told of entries.
use Rattle.std.specs.Prelude.{◌≡◌, ℕ, ℤ, List, Option, length, map}
use Rattle.octet_devices.specs.Held.{counted}
use Rattle.archive_text.specs.Entries.{Entry}
use Rattle.archive_counts.specs.Tallies.{IsEarliest, IsLatest}
use Rattle.store_statistics.specs.Times.{IsFirstOf, IsLastOf}
use Rattle.store_statistics.specs.declared.figures.Figures.{Figures}
use Rattle.store_statistics.specs.declared.tally.Tally.{Tally}

-- the times of entries
abbrev pub times_of : List Entry → List (Option ℤ)
times_of es = map (λ (e : Entry). e.instant) es

-- how many entries there are, and from when to when they are
pub record IsTallyOf (t : Tally) (es : List Entry) : Type 0 where
  pub records : t.records ≡ counted (length es)
  pub first : IsFirstOf (times_of es) t.first
  pub last : IsLastOf (times_of es) t.last

-- the figures of a file of so many octets that has these entries
pub record AreFigures (f : Figures) (es : List Entry) (octets : ℕ) : Type 0 where
  pub records : f.tally.records ≡ length es
  pub octets_are : f.octets ≡ octets
  pub first : IsEarliest es f.tally.first
  pub last : IsLatest es f.tally.last
