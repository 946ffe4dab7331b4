use Rattle.std.proofs.Common.{arith, inl, inr, subst, sym, ap}
use Rattle.serve_engine.specs.Intakes.{StandsBy}
use Rattle.serve_engine.proofs.Turns.{fault_turn, stopped_fault}
use Rattle.serve_engine.proofs.Counted.{dropped_none}
use Rattle.serve_engine.proofs.Told.{lines_none}
use Rattle.serve_engine.proofs.server.Server.commit.Goals as goal

pub returns-in-Ok-clause-served : goal.returns-in-Ok-clause-served
returns-in-Ok-clause-served g c k first before at =
    let d = c.in-Ok.ensures.ok k first before at in (d.0, d.1, d.2, λ room. d.3)

pub returns-in-Err-clause-served : goal.returns-in-Err-clause-served
returns-in-Err-clause-served g c k first before at =
    let d = c.in-Err.ensures.stands k first before at in (
      d.0,
      subst (λ i. StandsBy (g.S.Store.entries) (g.K.Keeping.stands) i d.0 first before) (sym c.fault.ensures.same) d.1,
      d.2,
      stopped_fault _ _ _ _ c.fault.ensures.turn,
    )

pub returns-in-Err-clause-turn : goal.returns-in-Err-clause-turn
returns-in-Err-clause-turn g c = fault_turn _ _ _ c.fault.ensures.turn

pub returns-in-Ok-clause-kept : goal.returns-in-Ok-clause-kept
returns-in-Ok-clause-kept g c = (
  (
    ap (g.R.Output.state) c.committed.ensures.refused,
    omega (arith, ap (λ x. x.dropped) c.committed.ensures.counts),
  ),
  inr (c.in-Ok.taken, dropped_none _ _ c.committed.ensures.counts),
)

pub returns-in-Err-clause-kept : goal.returns-in-Err-clause-kept
returns-in-Err-clause-kept g c = (c.fault.ensures.kept.0, inl c.fault.ensures.kept.1)

pub returns-in-Ok-clause-notes : goal.returns-in-Ok-clause-notes
returns-in-Ok-clause-notes g c = lines_none 1 _ _ (ap (λ t. t.output) c.committed.ensures.told)

pub returns-in-Ok-clause-pace : goal.returns-in-Ok-clause-pace
returns-in-Ok-clause-pace g c = ap (λ t. t.pace) c.committed.ensures.told

pub returns-in-Err-clause-notes : goal.returns-in-Err-clause-notes
returns-in-Err-clause-notes g c = c.fault.ensures.notes
