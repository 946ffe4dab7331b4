use Rattle.std.proofs.Common.{ℕ, subst}
use Rattle.archive_sets.specs.Failures.{WriteFailures}
use Rattle.archive_digest.proofs.Endings.{tells_read}
use Rattle.archive_digest.proofs.digesting.Digesting.run.Goals as goal

pub returns-in-Ok-clause-told : goal.returns-in-Ok-clause-told
returns-in-Ok-clause-told g c = record {
  reader = tells_read c.finish.result _ _ c.finish.ensures.not_reader c.in-Ok.ensures.reader;
  writer = subst (λ (n : ℕ). WriteFailures c.finish.result n (g.W.Output.state c.finish.new.writer).failures)
      c.in-Ok.ensures.writer c.finish.ensures.told;
}
