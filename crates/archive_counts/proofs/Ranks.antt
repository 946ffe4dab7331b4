-- Rows in their order.
use Rattle.std.proofs.Common.{◌≡◌, ℕ, ◌+◌, ◌<◌, true, false, List, [], ◌∷◌, length, get_or, refl, sym, ap, subst, ◌∙◌, arith}
use Rattle.std.specs.Cmp.{IsStrictWeakOrder, IsTotalOrder}
use Rattle.std.specs.List.{IsDistinct}
use Rattle.std.specs.List.Sorted.{IsPermutation, IsSortedBy, IsStrictlySortedBy}
use Rattle.std.specs.Ordering.{eq_by_cmp, is_eq, is_lt, nat_cmp, ordering_reverse, ordering_then}
use Rattle.std.specs.declared.cmp.Ordering.{Ordering}
use Rattle.std.specs.declared.cmp.Ordering.TheVariants.{Less, Equal, Greater}
use Rattle.std.proofs.lemmas.Cmp.{back_total, eq_by_cmp_equiv, nat_cmp_total, nat_list_cmp_total, on_total, then_total}
use Rattle.std.proofs.lemmas.List.Sorted.{Contains-permutation, IsPermutation-sym, ranks_by}
use Rattle.std.proofs.lemmas.Map.Keys.{IsDistinct-IsPermutation, apart_from_distinct, sorted_from_all_adjacent}
use Rattle.archive_counts.specs.Rows.{AreRanked, AreRowsOf, compare_rows, compare_words}
use Rattle.archive_counts.specs.declared.order.LineOrder.{LineOrder}
use Rattle.archive_counts.specs.declared.order.LineOrder.TheVariants.{MostFirst, ByWords}
use Rattle.archive_counts.specs.declared.rows.Row.{Row}
use Rattle.archive_counts.specs.declared.table.Table.{Table}

pub words_total : IsTotalOrder compare_words
words_total = on_total (λ (r : Row). r.words.items) nat_list_cmp_total

rows_total : (order : LineOrder) → IsTotalOrder (compare_rows order)
rows_total MostFirst = then_total (on_total (λ (r : Row). r.tally.records) (back_total nat_cmp_total)) words_total
rows_total ByWords = words_total

pub rows_order : (order : LineOrder) → IsStrictWeakOrder (λ r s. is_lt (compare_rows order r s))
rows_order order = ranks_by (rows_total order) (λ (r : Row). r)

-- two rows that are not the wrong way round, and not under the same words
less_from : (o p w : Ordering) → o ≡ ordering_reverse p → is_lt p ≡ false → is_eq w ≡ false → (o ≡ Equal → w ≡ Equal)
    → o ≡ Less
less_from Less p w e not apart same = refl
less_from Equal p w e not apart same =
    let clash : is_eq w ≡ true = ap is_eq (same refl) in
    let both : true ≡ false = sym clash ∙ apart in
    absurd cc
less_from Greater Less w e not apart same = absurd cc
less_from Greater Equal w e not apart same = absurd cc
less_from Greater Greater w e not apart same = absurd cc

tied_parts : (o w : Ordering) → ordering_then o w ≡ Equal → w ≡ Equal
tied_parts Less w h = absurd cc
tied_parts Equal w h = h
tied_parts Greater w h = absurd cc

tied_words : (order : LineOrder) (r s : Row) → compare_rows order r s ≡ Equal → compare_words r s ≡ Equal
tied_words MostFirst r s h = tied_parts (nat_cmp s.tally.records r.tally.records) (compare_words r s) h
tied_words ByWords r s h = h

adjacent : (order : LineOrder) (rows : List Row) (d : Row) → IsSortedBy (λ r s. is_lt (compare_rows order r s)) rows
    → IsDistinct (eq_by_cmp compare_words) rows → (k : ℕ) → k + 1 < length rows
    → compare_rows order (get_or rows k d) (get_or rows (k + 1) d) ≡ Less
adjacent order rows d up apart k within =
    let r : Row = get_or rows k d in
    let s : Row = get_or rows (k + 1) d in
    less_from (compare_rows order r s) (compare_rows order s r) (compare_words r s) ((rows_total order).antisymm r s)
    (up k d (omega arith) within)
    (apart_from_distinct (eq_by_cmp compare_words) rows k (k + 1) d apart (omega arith) within)
    (tied_words order r s)

none_sorted : (order : LineOrder) → IsStrictlySortedBy (compare_rows order) []
unfolding IsStrictlySortedBy
none_sorted order = tt

strictly : (order : LineOrder) (rows all : List Row) → rows ≡ all
    → IsSortedBy (λ r s. is_lt (compare_rows order r s)) all → IsDistinct (eq_by_cmp compare_words) all
    → IsStrictlySortedBy (compare_rows order) rows
strictly order [] all is up apart = none_sorted order
strictly order (r ∷ rows) all is up apart =
    subst (IsStrictlySortedBy (compare_rows order)) (sym is)
    (sorted_from_all_adjacent (rows_total order) all r (adjacent order all r up apart))

pub are_ranked : (order : LineOrder) (t : Table) (rows : List Row)
    → IsSortedBy (λ r s. is_lt (compare_rows order r s)) rows → AreRowsOf t rows → AreRanked order rows
are_ranked order t rows up of = strictly order rows rows refl up of.apart

pub same_rows : (t : Table) (old new : List Row) → IsPermutation old new → AreRowsOf t old → AreRowsOf t new
same_rows t old new p of = record {
  each = λ r among. of.each r (Contains-permutation new old r (IsPermutation-sym old new p) among);
  all = λ text some.
      let under = of.all text some in
      record {
        row = under.row;
        among = Contains-permutation old new under.row p under.among;
        words = under.words;
      };
  apart = IsDistinct-IsPermutation (eq_by_cmp compare_words) (eq_by_cmp_equiv words_total).symm old new p of.apart;
}
