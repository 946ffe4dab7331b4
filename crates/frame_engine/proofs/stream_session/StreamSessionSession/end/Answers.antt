use Rattle.std.proofs.Common.{subst, sym}
use Rattle.std.proofs.lemmas.Result.{on_err_weaker, on_ok_weaker}
use Rattle.driver.specs.Effects.{done_of, then_done}
use Rattle.frame_engine.specs.Sessions.{EndsInput}
use Rattle.frame_engine.specs.declared.input_framing.InputFraming.TheVariants.{Stream}
use Rattle.frame_engine.proofs.HandlingLemmas.{then_nothing}
use Rattle.frame_engine.proofs.SessionLemmas.{ended, handled_of, match_result, part_of, part_same}
use Rattle.frame_engine.proofs.stream_session.StreamSessionSession.end.Goals as goal

pub returns : goal.returns
returns g c = λ first given before s so_far.
    let D = g.D.FrameHandler.handles first.handler in
    let T = g.D.FrameHandler.reports first.handler in
    let E = g.D.FrameHandler.ends first.handler in
    let h = handled_of D (g.D.FrameHandler.stands first.handler c.args.self.now.handler) first.scanner.framing c.args.self.now.scanner c.args.self.now.number given s.frames s.rest
    (then_done before (done_of c.args.effects.now)) (c.args.self.now.reading s.goes_on) s.reads s.stands s.number_is
    so_far in
    let line = c.end_line.ensures T first.scanner.framing given h.frames h.rest h.reads in
    match_result c.close_frames.result _ _
    (on_ok_weaker c.close_frames.result
    (λ closes. subst (EndsInput D T E (Stream first.scanner.framing) given)
    (sym (then_nothing (then_done before (done_of c.close_frames.new.effects))))
    (ended D T E first.scanner.framing given h.frames h.rest before (done_of c.args.effects.now)
    (done_of c.close_frames.new.effects) _ line.0 h.handled line.1 (closes first.handler h.frames h.stands)))
    c.close_frames.ensures.ok)
    (on_err_weaker c.close_frames.result
    (λ same. part_same D first.scanner.framing given before (done_of c.args.effects.now)
    (done_of c.close_frames.new.effects) (part_of D _ c.args.self.now.scanner first.scanner.framing given _ _ h) same)
    c.close_frames.ensures.err)
