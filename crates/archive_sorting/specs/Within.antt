-- Spans that lie within an arena and show entries of an archive. Each fact has one proof at most, as what a ghost field
-- holds must.
use Rattle.std.proofs.Common.{ℕ, List, [], ◌∷◌, ap}
use Rattle.std.proofs.Props.{props}
use Rattle.std.specs.Prelude.{Vec, length, ◌≤◌}
use Rattle.std.specs.List.{AllByRecursion, AllByRecursion-prop}
use Rattle.std.specs.declared.alloc.Global.{Global}
use Rattle.archive_text.specs.Entries.{Entry, IsEntry}
use Rattle.archive_text.specs.Text.{IsArchive}
use Rattle.archive_text.specs.declared.limits.TheConstants.{ENTRY_MAX}
use Rattle.archive_laws.specs.Props.{archive_prop}
use Rattle.archive_sorting.specs.Spans.{IsWithin, blocks_of, entries_at}
use Rattle.archive_sorting.specs.declared.arena.Arena.{Arena}
use Rattle.archive_sorting.specs.declared.arena.Span.{Span}

abbrev pub LieWithin : Arena → Vec Span Global → Type 0
LieWithin arena spans = AllByRecursion (IsWithin (blocks_of arena)) spans.items

within_prop : (blocks : List (List ℕ)) (s : Span) → IsProp (IsWithin blocks s)
within_prop = hlevel props

pub LieWithin-prop : (arena : Arena) (spans : Vec Span Global) → IsProp (LieWithin arena spans)
LieWithin-prop arena spans = AllByRecursion-prop (IsWithin (blocks_of arena)) (within_prop (blocks_of arena)) spans.items

-- the entry of some record, of at most so many octets: what an archive may have
pub record IsFit (most : ℕ) (e : Entry) : Type 0 where
  pub entry : IsEntry e
  pub fits : length e.octets ≤ most

-- entries that an archive may have
abbrev pub AreFit : List Entry → Type 0
AreFit es = AllByRecursion (IsFit ENTRY_MAX) es

-- the spans show such entries
abbrev pub ShowFit : Arena → Vec Span Global → Type 0
ShowFit arena spans = AreFit (entries_at (blocks_of arena) spans.items)

-- such an entry alone is an archive
abbrev alone : (most : ℕ) (e : Entry) → IsFit most e → IsArchive most (e ∷ [])
alone most e h = record { ascending = (tt, tt); entries = (h.entry, tt); fits = (h.fits, tt) }

abbrev first_of : (most : ℕ) (e : Entry) → IsArchive most (e ∷ []) → IsFit most e
first_of most e a = record { entry = a.entries.0; fits = a.fits.0 }

fit_prop : (most : ℕ) (e : Entry) → IsProp (IsFit most e)
fit_prop most e = λ h k. ap (first_of most e) (archive_prop most (e ∷ []) (alone most e h) (alone most e k))

pub ShowFit-prop : (arena : Arena) (spans : Vec Span Global) → IsProp (ShowFit arena spans)
ShowFit-prop arena spans =
    AllByRecursion-prop (IsFit ENTRY_MAX) (fit_prop ENTRY_MAX) (entries_at (blocks_of arena) spans.items)

-- the spans show an archive
abbrev pub ShowArchive : Arena → Vec Span Global → Type 0
ShowArchive arena spans = IsArchive ENTRY_MAX (entries_at (blocks_of arena) spans.items)

pub ShowArchive-prop : (arena : Arena) (spans : Vec Span Global) → IsProp (ShowArchive arena spans)
ShowArchive-prop arena spans = archive_prop ENTRY_MAX (entries_at (blocks_of arena) spans.items)
