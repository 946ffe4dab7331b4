use Rattle.std.proofs.Common.{refl, inl, inr}
use Rattle.std.proofs.lemmas.Result.{on_ok_weaker}
use Rattle.frame_engine.proofs.check.Check.check.Goals as goal

pub returns-in-None-clause-ok : goal.returns-in-None-clause-ok
returns-in-None-clause-ok c =
    on_ok_weaker c.accept.result (λ e. (_, inl (c.in-None.ensures, refl), e)) c.accept.ensures.ok

pub returns-in-Some-clause-ok : goal.returns-in-Some-clause-ok
returns-in-Some-clause-ok c =
    on_ok_weaker c.refuse.result (λ e. (_, inr (c.in-Some.line, c.in-Some.ensures, refl), e)) c.refuse.ensures.ok
