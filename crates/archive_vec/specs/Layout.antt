-- How the entries of an archive lie in memory.
use Rattle.std.specs.Prelude.{ℕ, ◌+◌, ◌≤◌, List, length, take, drop, map}
use Rattle.std.specs.List.{AllByRecursion}
use Rattle.archive_text.specs.Entries.{Entry}
use Rattle.archive_text.specs.Text.{IsArchive}
use Rattle.archive_text.specs.declared.limits.TheConstants.{ENTRY_MAX}
use Rattle.archive_vec.specs.declared.span.EntrySpan.{EntrySpan}
use Rattle.archive_vec.specs.declared.span.TheConstants.{ENTRIES_MAX}

-- the entry at a span
abbrev pub entry_at : List ℕ → EntrySpan → Entry
entry_at octets s = record { instant = s.instant; octets = take s.len (drop s.start octets) }

-- the entries at some spans
abbrev pub entries_of : List ℕ → List EntrySpan → List Entry
entries_of octets spans = map (entry_at octets) spans

-- the span ends within the octets
abbrev pub IsWithin : List ℕ → EntrySpan → Type 0
IsWithin octets s = s.start + s.len ≤ length octets

-- the spans end within the octets, and the entries there are an archive
pub record IsLaidOut (octets : List ℕ) (spans : List EntrySpan) : Type 0 where
  pub within : AllByRecursion (IsWithin octets) spans
  pub archive : IsArchive ENTRY_MAX (entries_of octets spans)
  pub few : length spans ≤ ENTRIES_MAX
