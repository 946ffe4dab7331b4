use Rattle.std.proofs.Common.{refl}
use Rattle.archive_sets.proofs.Together.{each_end}
use Rattle.archive_sets.proofs.field_test.passes_one_of_each.Goals as goal

pub returns : goal.returns
returns c = λ r shown.
    (λ on. (c.lists.invariant r shown).0 (each_end _ c.args.lists.now c.lists.tests-index c.lists-test.false), λ h. refl)
