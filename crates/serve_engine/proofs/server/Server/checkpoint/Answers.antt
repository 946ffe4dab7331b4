use Rattle.std.proofs.Common.{subst, sym}
use Rattle.serve_engine.specs.Intakes.{StandsBy}
use Rattle.serve_engine.proofs.Turns.{fault_turn, stopped_fault}
use Rattle.serve_engine.proofs.server.Server.checkpoint.Goals as goal

pub returns-in-Err-clause-stands : goal.returns-in-Err-clause-stands
returns-in-Err-clause-stands g c k first before at =
    subst (λ i. StandsBy (g.S.Store.entries) (g.K.Keeping.stands) i k first before) (sym c.fault.ensures.same)
    (c.in-Err.ensures.stands k first before at)

pub returns-in-Err-clause-full : goal.returns-in-Err-clause-full
returns-in-Err-clause-full g c = stopped_fault _ _ _ _ c.fault.ensures.turn

pub returns-in-Err-clause-turn : goal.returns-in-Err-clause-turn
returns-in-Err-clause-turn g c = fault_turn _ _ _ c.fault.ensures.turn
