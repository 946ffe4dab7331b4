use Rattle.std.proofs.Common.{inl, subst, sym}
use Rattle.serve_engine.specs.Intakes.{StandsBy}
use Rattle.serve_engine.proofs.Turns.{fault_turn, stopped_fault}
use Rattle.serve_engine.proofs.server.Server.try_again.Goals as goal

pub returns-in-Ok-clause-served : goal.returns-in-Ok-clause-served
returns-in-Ok-clause-served g c k first before at =
    c.commit.ensures.served k first before (c.in-Ok.ensures.stands k first before at)

pub returns-in-Err-clause-served : goal.returns-in-Err-clause-served
returns-in-Err-clause-served g c k first before at = (
  k,
  subst (λ i. StandsBy (g.S.Store.entries) (g.K.Keeping.stands) i k first before) (sym c.fault.ensures.same)
      (c.in-Err.ensures.stands k first before at),
  λ x had. had,
  stopped_fault _ _ _ _ c.fault.ensures.turn,
)

pub returns-in-Err-clause-turn : goal.returns-in-Err-clause-turn
returns-in-Err-clause-turn g c = fault_turn _ _ _ c.fault.ensures.turn

pub returns-in-Ok-clause-kept : goal.returns-in-Ok-clause-kept
returns-in-Ok-clause-kept g c = c.commit.ensures.kept

pub returns-in-Err-clause-kept : goal.returns-in-Err-clause-kept
returns-in-Err-clause-kept g c = (c.fault.ensures.kept.0, inl c.fault.ensures.kept.1)
