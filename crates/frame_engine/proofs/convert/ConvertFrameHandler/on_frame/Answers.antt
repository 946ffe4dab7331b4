use Rattle.std.proofs.Common.{subst}
use Rattle.std.proofs.lemmas.Result.{on_ok_weaker}
use Rattle.driver.specs.Effects.{Adds, done_of}
use Rattle.frame_engine.specs.Converted.{convert_handling}
use Rattle.frame_engine.specs.declared.convert.Convert.{Convert}
use Rattle.frame_engine.proofs.convert.ConvertFrameHandler.on_frame.Goals as goal

pub returns-clause-ok : goal.returns-clause-ok
returns-clause-ok c =
    on_ok_weaker c.convert.result
    (λ adds first frames same. (
      subst (λ (d : Convert). Adds (convert_handling d.reading d.to c.args.number c.args.frame.now) (done_of c.args.effects.now)
          (done_of c.convert.new.effects)) same adds,
      same,
    ))
    c.convert.ensures.ok
