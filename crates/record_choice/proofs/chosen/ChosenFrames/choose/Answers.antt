use Rattle.driver.specs.Effects.{done_of}
use Rattle.record_choice.proofs.Choices.{chose_kept, chose_written, on_ok_map}
use Rattle.record_choice.proofs.chosen.ChosenFrames.choose.Goals as goal

pub returns-in-None-clause-ok : goal.returns-in-None-clause-ok
returns-in-None-clause-ok g c = on_ok_map c.add_frame.result _ _
    (λ is. chose_written (g.T.FrameTest.passes c.args.self.now.test) c.args.self.now.last (done_of c.args.effects.now)
    c.add_frame.new.out.items c.args.frame.now c.in-None.is (c.is_passed.ensures.0 c.if-not-is_passed.false) is) c.add_frame.ensures.ok

pub returns-in-Some-clause-ok : goal.returns-in-Some-clause-ok
returns-in-Some-clause-ok g c = on_ok_map c.push.result _ _
    (λ is. chose_kept (g.T.FrameTest.passes c.args.self.now.test) c.args.self.now.last c.in-Some.last c.push.new.self
    (done_of c.args.effects.now) c.args.frame.now c.in-Some.is (c.is_passed.ensures.0 c.if-not-is_passed.false) is c.push.ensures.most) c.push.ensures.last
