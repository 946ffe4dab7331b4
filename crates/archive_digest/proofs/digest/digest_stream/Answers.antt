use Rattle.std.proofs.Common.{[], refl}
use Rattle.archive_digest.specs.declared.roots.Roots.TheVariants.{Without}
use Rattle.archive_digest.proofs.Plain.{begun_with, plain}
use Rattle.archive_digest.proofs.digest.digest_stream.Goals as goal

pub returns-in_default-clause-outcome : goal.returns-in_default-clause-outcome
returns-in_default-clause-outcome g c =
    record { xs = []; parts = []; read = tt; divided = record { each = tt; all = refl }; written = tt }

pub returns-clause-outcome : goal.returns-clause-outcome
returns-clause-outcome g c =
    plain c.args.period _ _ _ _ c.run.result
    (begun_with c.args.period _ _ _ _ Without c.in-Ok.digesting c.run.result c.in-Ok.ensures c.run.ensures.outcome)
