use Rattle.std.proofs.Common.{◌≡◌, ◌∙◌, ◌++◌, ap, subst}
use Rattle.std.proofs.lemmas.Result.{err_from_is_err_and}
use Rattle.driver.specs.Effects.{done_of}
use Rattle.record_choice.specs.Choosing.{ChoosesAll, ChoosesSome}
use Rattle.record_choice.specs.Kept.{limit_of}
use Rattle.record_choice.proofs.Choices.{choice_stops, choice_takes, some_nothing}
use Rattle.record_choice.proofs.chosen.ChosenFramesSession.take.Goals as goal

pub returns-in_err-extend_from_slice : goal.returns-in_err-extend_from_slice
returns-in_err-extend_from_slice g c = λ first given before stands so_far few.
    let P = g.T.FrameTest.passes first.test in
    let held = done_of c.args.effects.now in
    let p = err_from_is_err_and c.from_residual.result c.from_residual.ensures.1 in
    rw p.1 (choice_stops P (limit_of first.last) c.args.self.now.last c.args.self.now.part.items given c.args.piece.now before
    held held stands.1 so_far (some_nothing P c.args.self.now.last held (c.args.self.now.part.items ++ c.args.piece.now)))

pub returns-in_err-choose_all : goal.returns-in_err-choose_all
returns-in_err-choose_all g c = λ first given before stands so_far few.
    let held = done_of c.args.effects.now in
    let kept = done_of c.choose_all.new.effects in
    let last = c.args.self.now.last in
    let whole : c.as_slice.result.now ≡ c.args.self.now.part.items ++ c.args.piece.now =
    c.as_slice.ensures.value ∙ (c.in_ok-extend_from_slice.ensures.items ∙ ap (λ v. v.items ++ c.args.piece.now) c.swap.ensures.x_after) in
    let p = err_from_is_err_and c.from_residual-in_err-choose_all.result c.from_residual-in_err-choose_all.ensures.1 in
    rw p.1 (choice_stops (g.T.FrameTest.passes first.test) (limit_of first.last) last c.args.self.now.part.items given
    c.args.piece.now before held kept stands.1 so_far
    (subst (λ t. ChoosesSome (g.T.FrameTest.passes t) last held kept (c.args.self.now.part.items ++ c.args.piece.now)) stands.0
    (subst (λ xs. ChoosesSome (g.T.FrameTest.passes c.args.self.now.test) last held kept xs) whole
    c.in_err-choose_all.ensures.outcome)))

pub returns : goal.returns
returns g c = λ first given before stands so_far few.
    let held = done_of c.args.effects.now in
    let kept = done_of c.choose_all.new.effects in
    let last = c.args.self.now.last in
    let new = c.choose_all.new.self in
    let whole : c.as_slice.result.now ≡ c.args.self.now.part.items ++ c.args.piece.now =
    c.as_slice.ensures.value ∙ (c.in_ok-extend_from_slice.ensures.items ∙ ap (λ v. v.items ++ c.args.piece.now) c.swap.ensures.x_after) in
    let t = choice_takes (g.T.FrameTest.passes first.test) (limit_of first.last) last new.last c.args.self.now.part.items
    new.part.items given c.args.piece.now before held kept stands.1 so_far
    (subst (λ t. ChoosesAll (g.T.FrameTest.passes t) last new.last held kept (c.args.self.now.part.items ++ c.args.piece.now)
    new.part.items) stands.0
    (subst (λ xs. ChoosesAll (g.T.FrameTest.passes c.args.self.now.test) last new.last held kept xs new.part.items) whole
    c.in_ok-choose_all.ensures.outcome)) in
    ((c.choose_all.ensures.test ∙ stands.0, t.0), t.1)
