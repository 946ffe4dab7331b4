use Rattle.std.proofs.Common.{◌≡◌, [], length}
use Rattle.driver.specs.Effects.{done_of}
use Rattle.record_choice.specs.Choosing.{ChoosesFirst}
use Rattle.record_choice.proofs.chosen.ChosenFrames.choose_all.Given as goal

abbrev pub invariant-frames : goal.invariant-frames
invariant-frames g l =
    (l.self.test ≡ l.fn.self.test) × (l.self.part.items ≡ [])
    × ChoosesFirst (g.T.FrameTest.passes l.fn.self.test) l.fn.self.last l.self.last (done_of l.fn.effects)
    (done_of l.effects) l.text l.rest

abbrev pub decreases-frames : goal.decreases-frames
decreases-frames g l = length l.rest
