use Rattle.std.proofs.Common.{◌++◌, arith, refl, subst, sym}
use Rattle.std.proofs.lemmas.List.{length-append}
use Rattle.std.proofs.lemmas.Result.{err_from_is_err_and}
use Rattle.driver.specs.Effects.{done_of, then_done}
use Rattle.frame_engine.specs.Sessions.{EndsInput}
use Rattle.frame_engine.specs.declared.input_framing.InputFraming.TheVariants.{Stream}
use Rattle.frame_engine.proofs.HandlingLemmas.{then_nothing}
use Rattle.frame_engine.proofs.SessionLemmas.{ended_at_bad, goes_on, handled_of, part_of_bad, part_same}
use Rattle.frame_engine.proofs.stream_session.StreamSessionSession.take.Goals as goal

pub returns-in_err-bad : goal.returns-in_err-bad
returns-in_err-bad g c = λ first given before s so_far few.
    let h = handled_of (g.D.FrameHandler.handles first.handler) _ first.scanner.framing c.args.self.now.scanner
    c.args.self.now.number given s.frames s.rest (then_done before (done_of c.args.effects.now))
    (c.args.self.now.reading s.goes_on) s.reads s.stands s.number_is so_far in
    let p = err_from_is_err_and c.from_residual.result c.from_residual.ensures.1 in
    rw p.1 (c.in_err-bad.ensures.err first.handler first.scanner.framing given before h)

pub returns-in_default : goal.returns-in_default
returns-in_default g c = λ first given before s so_far few.
    let D = g.D.FrameHandler.handles first.handler in
    let h = handled_of D _ first.scanner.framing c.args.self.now.scanner c.args.self.now.number given s.frames s.rest
    (then_done before (done_of c.args.effects.now)) (c.args.self.now.reading s.goes_on) s.reads s.stands s.number_is
    so_far in
    let on = rw c.in_default.is at (c.in_ok-bad.ensures.handles first.handler first.scanner.framing given before h) in (
      record {
        frames = on.frames;
        rest = on.rest;
        reads = on.reads;
        stands = on.stands;
        number_is = on.number_is;
        room_is = omega (arith, s.room_is, length-append given c.args.piece.now, c.if-piece-self.false);
        goes_on = refl;
      },
      goes_on D _ first.scanner.framing c.feed.new.scanner (given ++ c.args.piece.now) c.feed.new.number
          (then_done before (done_of c.feed.new.effects)) ((rw c.in_default.is at c.in_ok-bad.ensures.reading) refl) on,
    )

pub returns-in_err-close_frames : goal.returns-in_err-close_frames
returns-in_err-close_frames g c = λ first given before s so_far few.
    let D = g.D.FrameHandler.handles first.handler in
    let h = handled_of D _ first.scanner.framing c.args.self.now.scanner c.args.self.now.number given s.frames s.rest
    (then_done before (done_of c.args.effects.now)) (c.args.self.now.reading s.goes_on) s.reads s.stands s.number_is
    so_far in
    let bad = rw c.in-Some.is at (c.in_ok-bad.ensures.handles first.handler first.scanner.framing given before h) in
    let p = err_from_is_err_and c.from_residual-in_err-close_frames.result
    c.from_residual-in_err-close_frames.ensures.1 in
    rw p.1 (part_same D first.scanner.framing _ before (done_of c.feed.new.effects)
    (done_of c.close_frames.new.effects) (part_of_bad D _ first.scanner.framing _ _ _ _ bad)
    c.in_err-close_frames.ensures.err)

pub returns : goal.returns
returns g c = λ first given before s so_far few.
    let D = g.D.FrameHandler.handles first.handler in
    let T = g.D.FrameHandler.reports first.handler in
    let E = g.D.FrameHandler.ends first.handler in
    let h = handled_of D _ first.scanner.framing c.args.self.now.scanner c.args.self.now.number given s.frames s.rest
    (then_done before (done_of c.args.effects.now)) (c.args.self.now.reading s.goes_on) s.reads s.stands s.number_is
    so_far in
    let bad = rw c.in-Some.is at (c.in_ok-bad.ensures.handles first.handler first.scanner.framing given before h) in
    λ more.
    let x = bad more in
    subst (EndsInput D T E (Stream first.scanner.framing) ((given ++ c.args.piece.now) ++ more))
    (sym (then_nothing (then_done before (done_of c.close_frames.new.effects))))
    (ended_at_bad D _ T E first.scanner.framing _ _ _ before (done_of c.feed.new.effects)
    (done_of c.close_frames.new.effects) x (c.in_ok-close_frames.ensures.ok first.handler x.frames x.stands))
