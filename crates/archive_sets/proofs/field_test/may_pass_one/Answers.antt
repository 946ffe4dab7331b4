use Rattle.std.proofs.Common.{IsTrue}
use Rattle.archive_sets.proofs.Together.{one_left}
use Rattle.archive_sets.proofs.field_test.may_pass_one.Goals as goal

pub tests-preserved : goal.tests-preserved
tests-preserved c = λ r w h.
    one_left c.args.tests.now c.tests.test-index _ r c.tests-test.true
    (λ p. let on : IsTrue c.may_pass.result = c.may_pass.ensures r w p in absurd cc) (c.tests.invariant r w h)
