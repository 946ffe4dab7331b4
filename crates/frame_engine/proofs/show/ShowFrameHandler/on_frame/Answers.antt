use Rattle.std.proofs.Common.{subst}
use Rattle.std.proofs.lemmas.Result.{on_ok_weaker}
use Rattle.driver.specs.Effects.{Adds, done_of}
use Rattle.frame_engine.specs.Showing.{show_handling}
use Rattle.frame_engine.specs.declared.show.Show.{Show}
use Rattle.frame_engine.proofs.show.ShowFrameHandler.on_frame.Goals as goal

pub returns-clause-ok : goal.returns-clause-ok
returns-clause-ok c =
    on_ok_weaker c.show.result
    (λ adds first frames same. (
      subst (λ (d : Show). Adds (show_handling d.reading c.args.number c.args.frame.now) (done_of c.args.effects.now)
          (done_of c.show.new.effects)) same adds,
      same,
    ))
    c.show.ensures.ok
