-- Spans in the order of their entries.
use Rattle.std.specs.Prelude.{◌↔◌, ℕ, List}
use Rattle.std.specs.declared.cmp.Ordering.{Ordering}
use Rattle.std.specs.Cmp.Lexicographic.{slice_cmp}
use Rattle.std.specs.Ordering.{nat_cmp, on, then_cmp}
use Rattle.archive_text.specs.Entries.{Entry, Has}
use Rattle.archive_sorting.specs.Spans.{octets_at}
use Rattle.archive_sorting.specs.declared.arena.Span.{Span}

-- how two spans compare: by rank, then by octets
abbrev pub span_cmp : List (List ℕ) → Span → Span → Ordering
span_cmp blocks = then_cmp (on (λ (s : Span). s.rank) nat_cmp) (on (octets_at blocks) (slice_cmp nat_cmp))

-- two lists have the same members, and so are one set
abbrev pub HaveSame : List Entry → List Entry → Type 0
HaveSame xs ys = (e : Entry) → Has ys e ↔ Has xs e
