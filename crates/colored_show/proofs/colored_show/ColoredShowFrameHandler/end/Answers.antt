use Rattle.std.proofs.Common.{refl, sym}
use Rattle.driver.specs.Effects.{done_of, nothing}
use Rattle.frame_engine.proofs.HandlingLemmas.{then_nothing}
use Rattle.colored_show.proofs.colored_show.ColoredShowFrameHandler.end.Goals as goal

pub returns-clause-ok : goal.returns-clause-ok
returns-clause-ok c = λ first frames same. (nothing, refl, sym (then_nothing (done_of c.args._effects.now)))
