-- The facts on pages have one proof at most, as what a ghost field holds must.
use Rattle.std.proofs.Common.{ℕ, List}
use Rattle.std.proofs.Props.{props}
use Rattle.std.specs.Prelude.{Vec}
use Rattle.std.specs.declared.alloc.Global.{Global}
use Rattle.archive_laws.specs.Props.{archive_prop}
use Rattle.archive_pages.specs.Pages.{ArePaged, HoldArchive}
use Rattle.archive_pages.specs.Spans.{IsWithin, blocks_of, lists_of}
use Rattle.archive_pages.specs.declared.arena.Arena.{Arena}
use Rattle.archive_pages.specs.declared.arena.Span.{Span}

within_prop : (blocks : List (List ℕ)) (s : Span) → IsProp (IsWithin blocks s)
within_prop = hlevel props

-- the pages of an archive are so in one way
pub ArePaged-prop : (blocks : List (List ℕ)) (pages : List (List Span)) → IsProp (ArePaged blocks pages)
ArePaged-prop = hlevel (props, within_prop, archive_prop)

pub HoldArchive-prop : (arena : Arena) (pages : Vec (Vec Span Global) Global) → IsProp (HoldArchive arena pages)
HoldArchive-prop arena pages = ArePaged-prop (blocks_of arena) (lists_of pages.items)
