use Rattle.std.proofs.Common.{refl}
use Rattle.std.proofs.lemmas.Result.{on_ok_weaker}
use Rattle.driver.specs.Effects.{done_of}
use Rattle.frame_engine.proofs.HandlingLemmas.{adds_output}
use Rattle.frame_engine.proofs.check.accept.Goals as goal

pub returns-clause-ok : goal.returns-clause-ok
returns-clause-ok c =
    on_ok_weaker c.put_line.result (λ e. adds_output (done_of c.args.effects.now) _ _ refl e refl) c.put_line.ensures.ok
