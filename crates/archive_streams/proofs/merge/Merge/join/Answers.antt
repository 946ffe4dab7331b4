use Rattle.std.proofs.Common.{refl, ◌∙◌}
use Rattle.archive_streams.proofs.Turns.{at_err}
use Rattle.archive_streams.proofs.merge.Merge.join.Goals as goal

pub entries-init : goal.entries-init
entries-init g c = record {
  steady = c.in_ok-advance_right.ensures.on.steady;
  left = c.in_ok-advance_left.ensures.told.failures;
  right = c.in_ok-advance_right.ensures.told.failures;
  writer = refl;
  joins = λ dl dr start s. c.in_ok-advance_right.ensures.ready dl _ dr start _
      (c.in_ok-advance_left.ensures.ready.first dl dr _ start _ s);
}

pub entries-preserved : goal.entries-preserved
entries-preserved g c = record {
  steady = c.in_ok-turn.ensures.steady;
  left = c.in_ok-turn.ensures.told.left ∙ c.entries.invariant.left;
  right = c.in_ok-turn.ensures.told.right ∙ c.entries.invariant.right;
  writer = c.in_ok-turn.ensures.told.writer ∙ c.entries.invariant.writer;
  joins = λ dl dr start s. c.in_ok-turn.ensures.joins dl dr start (c.entries.invariant.joins dl dr start s);
}

pub returns-clause-joins : goal.returns-clause-joins
returns-clause-joins g c = c.entries.invariant.joins

pub returns-in_err-advance_left-clause-halted : goal.returns-in_err-advance_left-clause-halted
returns-in_err-advance_left-clause-halted g c =
    at_err c.from_residual.result c.in_err-advance_left.field-0.0 _ c.from_residual.ensures.1
    (λ dl dr start s. c.in_err-advance_left.ensures.halted.first dl dr _ start _ s)

pub returns-in_err-advance_right-clause-halted : goal.returns-in_err-advance_right-clause-halted
returns-in_err-advance_right-clause-halted g c =
    at_err c.from_residual-in_err-advance_right.result c.in_err-advance_right.field-0.0 _
    c.from_residual-in_err-advance_right.ensures.1
    (λ dl dr start s. c.in_err-advance_right.ensures.halted dl _ dr start _
    (c.in_ok-advance_left.ensures.ready.first dl dr _ start _ s))

pub returns-in_err-turn-clause-halted : goal.returns-in_err-turn-clause-halted
returns-in_err-turn-clause-halted g c =
    at_err c.from_residual-in_err-turn.result c.in_err-turn.field-0.0 _ c.from_residual-in_err-turn.ensures.1
    (λ dl dr start s. c.in_err-turn.ensures.halted dl dr start (c.entries.invariant.joins dl dr start s))
