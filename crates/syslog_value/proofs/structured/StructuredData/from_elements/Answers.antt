use Rattle.std.proofs.Common.{refl}
use Rattle.std.proofs.lemmas.List.Elements.{All-from_recursion, recursion_from_All}
use Rattle.std.proofs.lemmas.List.Sorted.{IsPermutation-sym, All-permutation}
use Rattle.syslog_value.specs.Parts.{IsElement}
use Rattle.syslog_value.proofs.Ids.{sorted_by_id, by_id_distinct, equal_neighbours, distinct_permuted}
use Rattle.syslog_value.proofs.structured.StructuredData.from_elements.Goals as goal

pub returns-then-has_equal_neighbours-clause-distinct : goal.returns-then-has_equal_neighbours-clause-distinct
returns-then-has_equal_neighbours-clause-distinct c =
    let equal = rw c.as_slice-2.ensures.value at c.if-has_equal_neighbours.ensures in (
      (λ never. cc),
      (λ distinct. absurd (equal_neighbours _ equal
          (distinct_permuted _ _ c.sort_by_id.ensures.permutation distinct))),
    )

pub invariant_of-result : goal.invariant_of-result
invariant_of-result c =
    let differ = rw c.as_slice-2.ensures.value at c.if-has_equal_neighbours.ensures in
    let each = All-from_recursion IsElement _ (rw c.as_slice.ensures.value at c.look_at.ensures) in (
      recursion_from_All IsElement _ (All-permutation IsElement _ _ c.sort_by_id.ensures.permutation each),
      sorted_by_id _ c.sort_by_id.ensures.sorted differ,
    )

pub returns-clause-distinct : goal.returns-clause-distinct
returns-clause-distinct c =
    let differ = rw c.as_slice-2.ensures.value at c.if-has_equal_neighbours.ensures in
    let sorted = sorted_by_id _ c.sort_by_id.ensures.sorted differ in (
      (λ yes. distinct_permuted _ _ (IsPermutation-sym _ _ c.sort_by_id.ensures.permutation) (by_id_distinct _ sorted)),
      (λ distinct. refl),
    )

pub returns-clause-by_id : goal.returns-clause-by_id
returns-clause-by_id c =
    let differ = rw c.as_slice-2.ensures.value at c.if-has_equal_neighbours.ensures in
    sorted_by_id _ c.sort_by_id.ensures.sorted differ
