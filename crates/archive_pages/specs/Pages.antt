-- Pages of spans.
use Rattle.std.specs.Prelude.{ℕ, ◌+◌, ◌<◌, ◌≤◌, ◌≡◌, List, [], ◌++◌, length, take, drop, slice_index_or, Vec}
use Rattle.std.specs.List.{AllByRecursion, flat_map}
use Rattle.std.specs.declared.alloc.Global.{Global}
use Rattle.archive_text.specs.Entries.{Entry, IsAscending}
use Rattle.archive_text.specs.Text.{IsArchive, text_of}
use Rattle.archive_text.specs.declared.limits.TheConstants.{ENTRY_MAX}
use Rattle.archive_pages.specs.Spans.{IsWithin, blocks_of, entries_at, lists_of}
use Rattle.archive_pages.specs.declared.arena.Arena.{Arena}
use Rattle.archive_pages.specs.declared.arena.Span.{Span}
use Rattle.archive_pages.specs.declared.page.TheConstants.{PAGE_MAX}

-- one page behind the other
abbrev pub joined : List (List Span) → List Span
joined pages = flat_map (λ p. p) pages

abbrev pub page_at : List (List Span) → ℕ → List Span
page_at pages k = slice_index_or pages k []

-- the spans before one place of a page, and those behind it
abbrev pub before : List (List Span) → ℕ → ℕ → List Span
before pages k at = joined (take k pages) ++ take at (page_at pages k)

abbrev pub after : List (List Span) → ℕ → ℕ → List Span
after pages k at = drop at (page_at pages k) ++ joined (drop (k + 1) pages)

-- each page has one to 256 spans
abbrev pub HaveSizes : List (List Span) → Type 0
HaveSizes pages = AllByRecursion (λ p. (0 < length p) × (length p ≤ PAGE_MAX)) pages

abbrev pub entries_of : List (List ℕ) → List (List Span) → List Entry
entries_of blocks pages = entries_at blocks (joined pages)

-- the text of the entries of pages
abbrev pub pages_text : List (List ℕ) → List (List Span) → List ℕ
pages_text blocks pages = text_of (entries_of blocks pages)

-- all spans of pages lie within the blocks
abbrev pub LieWithin : List (List ℕ) → List (List Span) → Type 0
LieWithin blocks pages = AllByRecursion (IsWithin blocks) (joined pages)

-- what a search needs of pages
pub record AreSearchable (blocks : List (List ℕ)) (pages : List (List Span)) : Type 0 where
  pub sizes : HaveSizes pages
  pub within : AllByRecursion (IsWithin blocks) (joined pages)
  pub ascending : IsAscending (entries_of blocks pages)

-- the pages of an archive
pub record ArePaged (blocks : List (List ℕ)) (pages : List (List Span)) : Type 0 where
  pub sizes : HaveSizes pages
  pub within : AllByRecursion (IsWithin blocks) (joined pages)
  pub archive : IsArchive ENTRY_MAX (entries_of blocks pages)

-- the same of pages in a vector, over an arena
abbrev pub HoldArchive : Arena → Vec (Vec Span Global) Global → Type 0
HoldArchive arena pages = ArePaged (blocks_of arena) (lists_of pages.items)

-- a refusal leaves the pages and their entries as they were
pub record AreKept (old new : List (List ℕ)) (pages more : List (List Span)) : Type 0 where
  pub pages_kept : more ≡ pages
  pub entries_kept : entries_of new more ≡ entries_of old pages
