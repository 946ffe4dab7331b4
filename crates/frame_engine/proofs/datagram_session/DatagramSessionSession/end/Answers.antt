use Rattle.std.proofs.Common.{[], ◌∙◌, ◌∷◌, subst, sym}
use Rattle.std.proofs.lemmas.Result.{on_err_weaker, on_ok_weaker}
use Rattle.driver.specs.Effects.{done_of, then_done}
use Rattle.frame_engine.specs.Sessions.{EndsInput}
use Rattle.frame_engine.specs.declared.input_framing.InputFraming.TheVariants.{Datagram}
use Rattle.frame_engine.proofs.HandlingLemmas.{then_nothing}
use Rattle.frame_engine.proofs.SessionLemmas.{at_err, at_ok, ended_datagram, still_nothing}
use Rattle.frame_engine.proofs.datagram_session.DatagramSessionSession.end.Goals as goal

pub returns-then-is_err : goal.returns-then-is_err
returns-then-is_err g c = λ first given before stands so_far.
    let old = done_of c.args.effects.now in
    let handled = c.in_ok-handle.ensures.ok first.handler given stands.1 stands.0 in
    let err = c.end-ended.ensures.err in
    at_err c.end-ended.result _ _ (sym c.is_err.ensures.value ∙ c.if-is_err.true)
    (on_err_weaker c.end-ended.result
    (λ same. still_nothing before old (done_of c.take_back.new.effects) so_far
    (c.take_back.ensures old handled.0.0 c.of-mark.ensures (same ∙ handled.0.2)))
    err)

pub returns-else-is_err : goal.returns-else-is_err
returns-else-is_err g c = λ first given before stands so_far.
    let D = g.D.FrameHandler.handles first.handler in
    let T = g.D.FrameHandler.reports first.handler in
    let E = g.D.FrameHandler.ends first.handler in
    let new = done_of c.end-ended.new.effects in
    let handled = c.in_ok-handle.ensures.ok first.handler given stands.1 stands.0 in
    at_ok c.end-ended.result _ _ (sym c.is_err.ensures.value ∙ c.if-is_err.false)
    (on_ok_weaker c.end-ended.result
    (λ ends. subst (EndsInput D T E Datagram given) (sym (then_nothing (then_done before new)))
    (ended_datagram D T E given before (done_of c.args.effects.now) (done_of c.handle.new.effects) new so_far handled.0
    (ends first.handler (given ∷ []) handled.1)))
    c.end-ended.ensures.ok)
