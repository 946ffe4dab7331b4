use Rattle.archive_sets.proofs.Together.{unless}
use Rattle.archive_sets.proofs.conditions.Conditions.are_passed.Goals as goal

pub returns-then-passes_one_of_each : goal.returns-then-passes_one_of_each
returns-then-passes_one_of_each c = λ r shown.
    let each = rw c.deref.ensures.value at (c.passes_one_of_each.ensures r shown) in
    let one = rw c.deref-then-passes_one_of_each.ensures.value at (c.passes_one.ensures r shown) in
    let none = unless _ _ one in (
      λ on. record { any = each.0 c.if-passes_one_of_each.true; none = none.0 on },
      λ h. none.1 h.none,
    )

pub returns-else-passes_one_of_each : goal.returns-else-passes_one_of_each
returns-else-passes_one_of_each c = λ r shown.
    let each = rw c.deref.ensures.value at (c.passes_one_of_each.ensures r shown) in
    (λ on. absurd cc, λ h. each.1 h.any)
