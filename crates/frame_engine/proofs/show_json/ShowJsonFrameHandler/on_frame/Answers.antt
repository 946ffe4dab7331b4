use Rattle.std.proofs.Common.{subst}
use Rattle.std.proofs.lemmas.Result.{on_ok_weaker}
use Rattle.driver.specs.Effects.{Adds, done_of}
use Rattle.frame_engine.specs.ShowingJson.{show_json_handling}
use Rattle.frame_engine.specs.declared.show_json.ShowJson.{ShowJson}
use Rattle.frame_engine.proofs.show_json.ShowJsonFrameHandler.on_frame.Goals as goal

pub returns-clause-ok : goal.returns-clause-ok
returns-clause-ok c =
    on_ok_weaker c.show.result
    (λ adds first frames same. (
      subst (λ (d : ShowJson). Adds (show_json_handling d.reading c.args.number c.args.frame.now) (done_of c.args.effects.now)
          (done_of c.show.new.effects)) same adds,
      same,
    ))
    c.show.ensures.ok
