use Rattle.std.proofs.Common.{◌∙◌, arith, inl, true, false, refl, sym}
use Rattle.serve_engine.proofs.Rounds.{as_short, rests_full, stepped, tried}
use Rattle.serve_engine.proofs.Told.{turn_on}
use Rattle.serve_engine.proofs.server.Server.turn.Goals as goal

pub returns-then-self-clause-served : goal.returns-then-self-clause-served
returns-then-self-clause-served g c =
    tried _ _ _ _ _ (rests_full _ _ c.if-self.true) refl c.try_again.ensures.served c.try_again.ensures.settled
    c.try_again.ensures.manner c.try_again.ensures.turn c.try_again.ensures.kept

pub returns-then-is_short-clause-served : goal.returns-then-is_short-clause-served
returns-then-is_short-clause-served g c =
    tried _ _ _ _ _ (as_short _ _ true c.if-self.false (sym c.is_short.ensures ∙ c.if-is_short.true)) refl
    c.commit_early.ensures.served c.commit_early.ensures.settled c.commit_early.ensures.manner c.commit_early.ensures.turn c.commit_early.ensures.kept

pub returns-clause-served : goal.returns-clause-served
returns-clause-served g c =
    stepped _ _ _ _ c.next-step.result c.next-step.new.buf _ _
    (as_short _ _ false c.if-self.false (sym c.is_short.ensures ∙ c.if-is_short.false)) c.step.ensures.served.2 (record {
      between = _;
      buf = c.next-step.new.buf;
      gave = c.next-step.ensures;
      given = refl;
      closes = c.step.ensures.served.1;
    }) c.step.ensures.silent c.step.ensures.manner c.step.ensures.full c.step.ensures.turn
    c.step.ensures.last

pub returns-then-self-clause-notes : goal.returns-then-self-clause-notes
returns-then-self-clause-notes g c k first before at = turn_on 1 0 _ _ (omega arith) c.try_again.ensures.notes
    (inl c.try_again.ensures.pace)

pub returns-then-is_short-clause-notes : goal.returns-then-is_short-clause-notes
returns-then-is_short-clause-notes g c k first before at = turn_on 3 0 _ _ (omega arith) c.commit_early.ensures.notes
    (inl c.commit_early.ensures.pace)

pub returns-clause-notes : goal.returns-clause-notes
returns-clause-notes g c k first before at = c.step.ensures.notes k first before at
