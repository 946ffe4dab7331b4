use Rattle.std.proofs.Common.{arith, ap, ◌∙◌}
use Rattle.archive_digest.specs.declared.tally.Tally.{Tally}
use Rattle.archive_digest.proofs.Endings.{ending_fails, finish_fails, finished}
use Rattle.archive_digest.proofs.digesting.Digesting.finish.Goals as goal

pub returns-in-Ok-finish-clause-finishes : goal.returns-in-Ok-finish-clause-finishes
returns-in-Ok-finish-clause-finishes g c = λ roots period d e start w.
    finished roots period c.args.self.now _ _ d e start _ _ _ _
    (ap (λ (t : Tally). t.total.records) c.in-Ok.ensures.tally)
    (c.in-Ok.ensures.puts roots) c.in-Ok-finish.ensures.finishes w

pub returns-in-Ok-finish-clause-told : goal.returns-in-Ok-finish-clause-told
returns-in-Ok-finish-clause-told g c = c.in-Ok-finish.ensures.finishes.no_failure ∙ c.in-Ok.ensures.told

pub returns-in-Err-finish-clause-fault : goal.returns-in-Err-finish-clause-fault
returns-in-Err-finish-clause-fault g c = λ roots period d e start w.
    finish_fails roots period c.args.self.now _ d e start _ _ _ _
    (c.in-Ok.ensures.puts roots) c.in-Err-finish.ensures.finishes w

pub returns-in-Err-finish-clause-told : goal.returns-in-Err-finish-clause-told
returns-in-Err-finish-clause-told g c = λ few.
    omega (
      arith,
      c.in-Ok.ensures.told,
      c.in-Err-finish.ensures.finishes.cause (omega (arith, c.in-Ok.ensures.told, few)),
    )

pub returns-in-Err-clause-fault : goal.returns-in-Err-clause-fault
returns-in-Err-clause-fault g c = λ roots period d e start w.
    ending_fails roots period c.args.self.now d e start _ _ _ (c.in-Err.ensures.puts roots) w

pub returns-in-Err-clause-told : goal.returns-in-Err-clause-told
returns-in-Err-clause-told g c = c.in-Err.ensures.told
