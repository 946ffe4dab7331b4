use Rattle.std.proofs.Common.{[], ◌∙◌, ap, refl}
use Rattle.std.proofs.lemmas.Result.{on_err_weaker, on_ok_weaker}
use Rattle.driver.specs.Effects.{Done, done_of, then_done}
use Rattle.frame_engine.specs.Streams.{of_line}
use Rattle.frame_engine.proofs.HandlingLemmas.{then_assoc}
use Rattle.frame_engine.proofs.closing.close_frames.Goals as goal

pub returns-then-is_err-clause-err : goal.returns-then-is_err-clause-err
returns-then-is_err-clause-err g c =
    let D = c.args.handler.now in
    let reported = c.in_ok-report_any.ensures.ok D [] (g.met.D.FrameHandler.begun D) in
    on_err_weaker c.end-ended.result
    (λ same. c.take_back.ensures (done_of c.args.effects.now) (of_line (g.D.FrameHandler.reports D) c.args.line)
    c.of-mark.ensures (same ∙ reported))
    c.end-ended.ensures.err

pub returns-else-is_err-clause-ok : goal.returns-else-is_err-clause-ok
returns-else-is_err-clause-ok g c =
    on_ok_weaker c.end-ended.result
    (λ ends first frames stands.
    let (last, is_last, did) = ends first frames stands in
    let reported = c.in_ok-report_any.ensures.ok first frames stands in
    let line = of_line (g.D.FrameHandler.reports first) c.args.line in (
      then_done line last,
      (last, is_last, refl),
      did ∙ ap (λ (d : Done). then_done d last) reported ∙ then_assoc (done_of c.args.effects.now) line last,
    ))
    c.end-ended.ensures.ok
