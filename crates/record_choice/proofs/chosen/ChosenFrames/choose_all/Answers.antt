use Rattle.std.proofs.Common.{◌∙◌, ◌++◌, ◌∷◌, [], ap, refl, subst}
use Rattle.std.proofs.lemmas.Result.{err_from_is_err_and}
use Rattle.archive_text.specs.declared.limits.TheConstants.{ENTRY_MAX}
use Rattle.driver.specs.Effects.{done_of}
use Rattle.record_choice.specs.Choosing.{Chooses}
use Rattle.record_choice.proofs.Choices.{first_all, first_more, first_some}
use Rattle.record_choice.proofs.chosen.ChosenFrames.choose_all.Goals as goal

pub returns-in_err-choose-in-Ok-clause-outcome : goal.returns-in_err-choose-in-Ok-clause-outcome
returns-in_err-choose-in-Ok-clause-outcome g c =
    let p = err_from_is_err_and c.from_residual.result c.from_residual.ensures.1 in
    rw p.1 (first_some (g.T.FrameTest.passes c.args.self.now.test) _ _ _ (done_of c.frames.effects)
    (done_of c.choose.new.effects) _ _ c.frames.invariant.2 c.in_err-choose-in-Ok.ensures.err)

pub frames-preserved : goal.frames-preserved
frames-preserved g c = (
  c.choose.ensures.test ∙ c.frames.invariant.0,
  ap (λ v. v.items) c.choose.ensures.part ∙ c.frames.invariant.1,
  first_more (g.T.FrameTest.passes c.args.self.now.test) _ c.frames.self.last c.choose.new.self.last _
      (done_of c.frames.effects) (done_of c.choose.new.effects) ENTRY_MAX _ _ c.in-Ok.frame.now c.in-Ok.behind.now
      c.frames.invariant.2 c.in-Ok.ensures
      (subst (λ t. Chooses (g.T.FrameTest.passes t) c.frames.self.last c.choose.new.self.last (done_of c.frames.effects)
      (done_of c.choose.new.effects) (c.in-Ok.frame.now ∷ [])) c.frames.invariant.0 c.in_ok-choose-in-Ok.ensures.ok),
)

pub returns-in_err-extend_from_slice-in-Err-BadFrame-clause-outcome : goal.returns-in_err-extend_from_slice-in-Err-BadFrame-clause-outcome
returns-in_err-extend_from_slice-in-Err-BadFrame-clause-outcome g c =
    let p = err_from_is_err_and c.from_residual-in_err-extend_from_slice-in-Err-BadFrame.result
    c.from_residual-in_err-extend_from_slice-in-Err-BadFrame.ensures.1 in
    rw p.1 (first_some (g.T.FrameTest.passes c.args.self.now.test) _ c.frames.self.last _ (done_of c.frames.effects) _ _ _
    c.frames.invariant.2 refl)

pub returns-in-Err-BadFrame-clause-outcome : goal.returns-in-Err-BadFrame-clause-outcome
returns-in-Err-BadFrame-clause-outcome g c =
    first_all (g.T.FrameTest.passes c.args.self.now.test) _ _ _ _ ENTRY_MAX _ _ c.frames.rest.now _ c.frames.invariant.2
    (rw c.in-Err-BadFrame.field-0-is at c.in-Err-BadFrame.ensures)
    (c.in_ok-extend_from_slice-in-Err-BadFrame.ensures.items ∙ ap (λ xs. xs ++ c.frames.rest.now) c.frames.invariant.1)

pub returns-in-Err-clause-outcome : goal.returns-in-Err-clause-outcome
returns-in-Err-clause-outcome g c = first_some (g.T.FrameTest.passes c.args.self.now.test) _ c.frames.self.last _
    (done_of c.frames.effects) _ _ _ c.frames.invariant.2 refl

pub returns-in-Err-2 : goal.returns-in-Err-2
returns-in-Err-2 g c = record {
  test = c.frames.invariant.0;
  outcome = first_some (g.T.FrameTest.passes c.args.self.now.test) _ c.frames.self.last _ (done_of c.frames.effects) _ _ _
      c.frames.invariant.2 refl;
}
