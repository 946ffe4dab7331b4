-- Where an entry is among spans.
use Rattle.std.specs.Prelude.{◌≡◌, ℕ, ◌+◌, ◌-◌, ◌<◌, ◌≤◌, List, [], ◌∷◌, ◌⊎◌, length, take, drop, slice_index_or}
use Rattle.std.specs.Prelude.{Option, None, Some}
use Rattle.std.specs.List.{AllByRecursion}
use Rattle.std.specs.declared.cmp.Ordering.{Ordering}
use Rattle.archive_text.specs.Entries.{Entry, Has, IsBelow, IsOrder}
use Rattle.archive_pages.specs.Spans.{entries_at, entry_at}
use Rattle.archive_pages.specs.Pages.{after, before, entries_of, joined, page_at}
use Rattle.archive_pages.specs.declared.arena.Span.{Span}

-- the entries of all spans are below the entry
abbrev pub AreBelow : List (List ℕ) → Entry → List Span → Type 0
AreBelow blocks e spans = AllByRecursion (λ s. IsBelow (entry_at blocks s) e) spans

-- the entries of all spans are above the entry
abbrev pub AreAbove : List (List ℕ) → Entry → List Span → Type 0
AreAbove blocks e spans = AllByRecursion (λ s. IsBelow e (entry_at blocks s)) spans

-- the spans hold the entry; or it goes between those before the index and the others
abbrev pub IsInsertion : List (List ℕ) → List Span → Entry → Option ℕ → Type 0
IsInsertion blocks spans e None = Has (entries_at blocks spans) e
IsInsertion blocks spans e (Some n) = (n ≤ length spans) × AreBelow blocks e (take n spans)
    × AreAbove blocks e (drop n spans)

-- the page begins with an entry above the entry
abbrev pub BeginsAbove : List (List ℕ) → List Span → Entry → Type 0
BeginsAbove blocks [] e = ⊥
BeginsAbove blocks (s ∷ spans) e = IsBelow e (entry_at blocks s)

-- the page begins with an entry below the entry, or with the entry
abbrev pub BeginsUpTo : List (List ℕ) → List Span → Entry → Type 0
BeginsUpTo blocks [] e = ⊥
BeginsUpTo blocks (s ∷ spans) e = IsBelow (entry_at blocks s) e ⊎ (entry_at blocks s ≡ e)

-- how the last entry of a page compares with the entry
abbrev pub IsLastOrder : List (List ℕ) → List Span → Entry → Ordering → Type 0
IsLastOrder blocks spans e o = (s : Span) → s ≡ slice_index_or spans (length spans - 1) s
    → IsOrder o (entry_at blocks s) e

-- the entries of earlier pages are below the entry, those of later ones above it
pub record IsPage (blocks : List (List ℕ)) (pages : List (List Span)) (e : Entry) (k : ℕ) : Type 0 where
  pub within : k < length pages
  pub below : AreBelow blocks e (joined (take k pages))
  pub above : AreAbove blocks e (joined (drop (k + 1) pages))

-- the entry goes into a page, behind all that is below it and before all that is above it
pub record GoesTo (blocks : List (List ℕ)) (pages : List (List Span)) (e : Entry) (k at : ℕ) : Type 0 where
  pub page : k < length pages
  pub index : at ≤ length (page_at pages k)
  pub below : AreBelow blocks e (before pages k at)
  pub above : AreAbove blocks e (after pages k at)

abbrev pub IsPlace : List (List ℕ) → List (List Span) → Entry → Option (ℕ × ℕ) → Type 0
IsPlace blocks pages e None = Has (entries_of blocks pages) e
IsPlace blocks pages e (Some p) = GoesTo blocks pages e p.0 p.1
