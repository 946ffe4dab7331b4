use Rattle.std.proofs.Common.{subst}
use Rattle.std.proofs.lemmas.Result.{on_ok_weaker}
use Rattle.driver.specs.Effects.{Adds, done_of}
use Rattle.frame_engine.specs.Checked.{check_handling}
use Rattle.frame_engine.specs.declared.check.Check.{Check}
use Rattle.frame_engine.proofs.check.CheckFrameHandler.on_frame.Goals as goal

pub returns-clause-ok : goal.returns-clause-ok
returns-clause-ok c =
    on_ok_weaker c.check.result
    (λ adds first frames same. (
      subst (λ (d : Check). Adds (check_handling d.reading c.args.number c.args.frame.now) (done_of c.args.effects.now)
          (done_of c.check.new.effects)) same adds,
      same,
    ))
    c.check.ensures.ok
