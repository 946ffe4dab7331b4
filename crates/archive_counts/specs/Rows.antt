-- The rows of a table, and their order.
use Rattle.std.specs.Prelude.{◌≡◌, ℕ, List, Contains, Some, IsSome}
use Rattle.std.specs.declared.cmp.Ordering.{Ordering}
use Rattle.std.specs.Cmp.Lexicographic.{slice_cmp}
use Rattle.std.specs.List.{IsDistinct}
use Rattle.std.specs.List.Sorted.{IsStrictlySortedBy}
use Rattle.std.specs.Ordering.{eq_by_cmp, nat_cmp, ordering_then}
use Rattle.archive_counts.specs.Tables.{tally_at}
use Rattle.archive_counts.specs.declared.order.LineOrder.{LineOrder}
use Rattle.archive_counts.specs.declared.order.LineOrder.TheVariants.{MostFirst, ByWords}
use Rattle.archive_counts.specs.declared.rows.Row.{Row}
use Rattle.archive_counts.specs.declared.table.Table.{Table}

-- by the octets of the words
abbrev pub compare_words : Row → Row → Ordering
compare_words r s = slice_cmp nat_cmp r.words.items s.words.items

-- more records first, and of as many by the octets of the words; or by these alone
abbrev pub compare_rows : LineOrder → Row → Row → Ordering
compare_rows MostFirst r s = ordering_then (nat_cmp s.tally.records r.tally.records) (compare_words r s)
compare_rows ByWords r s = compare_words r s

-- a row of the list is under these words
pub record IsUnder (rows : List Row) (text : List ℕ) : Type 0 where
  pub row : Row
  pub among : Contains rows row
  pub words : row.words.items ≡ text

-- the rows of a table, each once
pub record AreRowsOf (t : Table) (rows : List Row) : Type 0 where
  pub each : (r : Row) → Contains rows r → tally_at t r.words.items ≡ Some r.tally
  pub all : (text : List ℕ) → IsSome (tally_at t text) → IsUnder rows text
  pub apart : IsDistinct (eq_by_cmp compare_words) rows

-- each row comes before all that follow it
abbrev pub AreRanked : LineOrder → List Row → Type 0
AreRanked order rows = IsStrictlySortedBy (compare_rows order) rows
