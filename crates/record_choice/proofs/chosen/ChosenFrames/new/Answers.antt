use Rattle.std.proofs.Common.{[], ap, refl, sym}
use Rattle.driver.specs.Effects.{written}
use Rattle.record_choice.specs.Kept.{limit_of}
use Rattle.record_choice.proofs.Choices.{choice_begins, early_nothing, empty_choice}
use Rattle.record_choice.proofs.chosen.ChosenFrames.new.Goals as goal

pub returns-clause-begun : goal.returns-clause-begun
returns-clause-begun g c = (
  (refl, choice_begins (g.T.FrameTest.passes c.args.test) _ _ c.last_frames.ensures.none c.new.ensures.items),
  (
    empty_choice (g.T.FrameTest.passes c.args.test),
    ap (λ xs. written xs []) (sym (early_nothing (limit_of c.last_frames.result))),
  ),
)
