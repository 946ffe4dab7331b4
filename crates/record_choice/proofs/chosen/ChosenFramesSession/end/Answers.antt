use Rattle.std.proofs.Common.{◌∙◌, arith, sym, true}
use Rattle.driver.specs.Effects.{done_of}
use Rattle.record_choice.specs.Kept.{limit_of}
use Rattle.record_choice.proofs.Choices.{choice_ends, cut_refused, whole_refused}
use Rattle.record_choice.proofs.chosen.ChosenFramesSession.end.Goals as goal

pub returns-then-not-is_empty : goal.returns-then-not-is_empty
returns-then-not-is_empty g c = λ first given before stands so_far.
    choice_ends (g.T.FrameTest.passes first.test) (limit_of first.last) c.args.self.now.last c.args.self.now.part.items given
    before (done_of c.args.effects.now) true stands.1 (cut_refused c.args.self.now.part.items c.args.effects.now.refused
    c.args.self.now.part.len (omega (arith, c.args.self.now.part.ok)) (sym c.is_empty.ensures ∙ c.if-not-is_empty.true))
    so_far

pub returns-else-not-is_empty : goal.returns-else-not-is_empty
returns-else-not-is_empty g c = λ first given before stands so_far.
    choice_ends (g.T.FrameTest.passes first.test) (limit_of first.last) c.args.self.now.last c.args.self.now.part.items given
    before (done_of c.args.effects.now) c.args.effects.now.refused stands.1
    (whole_refused c.args.self.now.part.items c.args.effects.now.refused c.args.self.now.part.len
    (omega (arith, c.args.self.now.part.ok)) (sym c.is_empty.ensures ∙ c.if-not-is_empty.false)) so_far
