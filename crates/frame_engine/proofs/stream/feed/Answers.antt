use Rattle.std.proofs.Common.{◌≡◌, ◌<◌, ◌++◌, length, take, refl, sym, subst, ap, arith, rules, inl, inr}
use Rattle.std.proofs.lemmas.List.{length-drop, take_rest}
use Rattle.std.proofs.lemmas.Result.{err_from_is_err_and}
use Rattle.syslog_frame.specs.Scan.{Scan, HasBadCount, HasFrame, IsReading}
use Rattle.driver.specs.Effects.{done_of, then_done}
use Rattle.frame_engine.proofs.StreamLemmas.{HandledPiece, handled_nothing, handled_frame, handled_bad, handled_part}
use Rattle.frame_engine.proofs.stream.feed.Goals as goal

not_bad : (s : Scan) → HasFrame s → ¬ (HasBadCount s)
not_bad s frame bad = absurd cc

pub returns-in_err-handle_next-clause-err : goal.returns-in_err-handle_next-clause-err
returns-in_err-handle_next-clause-err g c =
    let p = err_from_is_err_and c.from_residual-in_err-handle_next.result
    c.from_residual-in_err-handle_next.ensures.1 in
    rw p.1
    (λ first kind octets before h.
    handled_part _ _ c.loop-rest.scanner kind octets c.args.piece.now c.loop-rest.rest.now _ _ _
    (c.loop-rest.invariant.handled first kind octets before h) (ap (then_done before) c.in_err-handle_next.ensures.err))

pub loop-rest-preserved-in-Nothing : goal.loop-rest-preserved-in-Nothing
loop-rest-preserved-in-Nothing g c =
    let same : c.next_borrowed.new.self ≡ c.loop-rest.scanner = c.in_default.ensures.same refl in
    let reading = subst IsReading (sym same) c.loop-rest.invariant.reading in
    let rest = c.loop-rest.rest.now in
    let n = c.in-Ok.used in
    rw (take_rest rest n)
    (record {
      reading = elim (rw c.in-Nothing.is at c.in_ok-handle_next.ensures.reports)
          [ inl r ↦ r | inr f ↦ absurd (c.in-Ok.ensures.live f) ];
      position = omega (
        arith,
        c.in-Ok.ensures.position,
        c.in-Ok.ensures.within,
        c.loop-rest.invariant.position,
        ap (λ (s : Scan). s.position) same,
        length-drop n rest,
      );
      few = omega (arith, c.loop-rest.invariant.few, length-drop n rest);
      handled = λ first kind octets before h.
          let d = subst (λ (s : Scan). HandledPiece (g.D.FrameHandler.handles first)
          (g.D.FrameHandler.stands first c.loop-rest.handler) s kind octets c.args.piece.now rest c.loop-rest.number
          (then_done before (done_of c.loop-rest.effects))) (sym same)
          (c.loop-rest.invariant.handled first kind octets before h) in
          let on = c.in-Ok.ensures.reads kind 0 (octets ++ d.0) d.2.frames d.2.rest d.2.reads
          (λ b. reading.0 (inr b)) in
          let done = rw c.in-Nothing.is at (c.in_ok-handle_next.ensures.handles first kind ((octets ++ d.0) ++ take n rest)
          d.2.frames (d.2.rest ++ take n rest) on.reads d.2.stands) in
          handled_nothing _ _ _ c.next_borrowed.new.self c.push.new.self kind octets c.args.piece.now rest _ n _ _ d on
          (ap (then_done before) done.0) done.1;
    })

pub returns-in-Bad-clause-handles : goal.returns-in-Bad-clause-handles
returns-in-Bad-clause-handles g c = λ first kind octets before h more.
    let same : c.next_borrowed.new.self ≡ c.loop-rest.scanner = c.in_default.ensures.same refl in
    let reading = subst IsReading (sym same) c.loop-rest.invariant.reading in
    let rest = c.loop-rest.rest.now in
    let n = c.in-Ok.used in
    let d = subst (λ (s : Scan). HandledPiece (g.D.FrameHandler.handles first)
    (g.D.FrameHandler.stands first c.loop-rest.handler) s kind octets c.args.piece.now rest c.loop-rest.number
    (then_done before (done_of c.loop-rest.effects))) (sym same)
    (c.loop-rest.invariant.handled first kind octets before h) in
    let on = c.in-Ok.ensures.reads kind 0 (octets ++ d.0) d.2.frames d.2.rest d.2.reads
    (λ b. reading.0 (inr b)) in
    let reported = rw c.in-Bad.is at (c.in_ok-handle_next.ensures.handles first kind ((octets ++ d.0) ++ take n rest)
    d.2.frames (d.2.rest ++ take n rest) on.reads d.2.stands) in
    handled_bad _ _ _ c.next_borrowed.new.self c.push.new.self kind octets c.args.piece.now rest _ n c.in-Bad.at _ _ d on
    (rw c.in-Bad.is at c.in_ok-handle_next.ensures.reports) reported.1 (ap (then_done before) reported.0) reported.2 more

pub loop-rest-preserved : goal.loop-rest-preserved
loop-rest-preserved g c =
    let same : c.next_borrowed.new.self ≡ c.loop-rest.scanner = c.in_default.ensures.same refl in
    let reading = subst IsReading (sym same) c.loop-rest.invariant.reading in
    let rest = c.loop-rest.rest.now in
    let n = c.in-Ok.used in
    rw (take_rest rest n)
    (record {
      reading = c.release.ensures.frame (rw c.in-Handled.is at c.in_ok-handle_next.ensures.reports);
      position = omega (
        arith,
        c.release.ensures.position,
        c.in-Ok.ensures.position,
        c.in-Ok.ensures.within,
        c.loop-rest.invariant.position,
        ap (λ (s : Scan). s.position) same,
        length-drop n rest,
      );
      few =
          let frame : HasFrame c.push.new.self = rw c.in-Handled.is at c.in_ok-handle_next.ensures.reports in
          let some : 0 < length rest = search rules in
          let more : 0 < n = c.in-Ok.ensures.progress reading some (not_bad c.push.new.self frame)
          in
          omega (arith, c.loop-rest.invariant.few, length-drop n rest, more, c.in-Ok.ensures.within);
      handled = λ first kind octets before h.
          let d = subst (λ (s : Scan). HandledPiece (g.D.FrameHandler.handles first)
          (g.D.FrameHandler.stands first c.loop-rest.handler) s kind octets c.args.piece.now rest c.loop-rest.number
          (then_done before (done_of c.loop-rest.effects))) (sym same)
          (c.loop-rest.invariant.handled first kind octets before h) in
          let on = c.in-Ok.ensures.reads kind 0 (octets ++ d.0) d.2.frames d.2.rest d.2.reads
          (λ b. reading.0 (inr b)) in
          let f = rw c.in-Handled.is at (c.in_ok-handle_next.ensures.handles first kind ((octets ++ d.0) ++ take n rest)
          d.2.frames (d.2.rest ++ take n rest) on.reads d.2.stands) in
          let begun = c.release.ensures.reads kind 0 ((octets ++ d.0) ++ take n rest) d.2.frames
          (d.2.rest ++ take n rest) f.0 on.reads f.1 in
          handled_frame _ _ _ c.next_borrowed.new.self c.release.new.self kind octets c.args.piece.now rest _ n f.0
          before _ _ d begun f.2 f.3;
    })

pub loop-rest-preserved-in-Some : goal.loop-rest-preserved-in-Some
loop-rest-preserved-in-Some g c =
    let rest = c.loop-rest.rest.now in
    let n = c.in-Some.borrowed.used in
    let borrowed = c.in-Some.ensures in
    rw (take_rest rest n)
    (record {
      reading = borrowed.reading.1;
      position = omega (
        arith,
        borrowed.position,
        borrowed.progress.1,
        c.loop-rest.invariant.position,
        length-drop n rest,
      );
      few = omega (arith, c.loop-rest.invariant.few, length-drop n rest, borrowed.progress.0, borrowed.progress.1);
      handled = λ first kind octets before h.
          let d = c.loop-rest.invariant.handled first kind octets before h in
          let begun = borrowed.reads kind 0 (octets ++ d.0) d.2.frames d.2.rest d.2.reads in
          let did = c.in_ok-on_frame.ensures.ok first d.2.frames d.2.stands in
          handled_frame _ _ _ c.loop-rest.scanner c.next_borrowed.new.self kind octets c.args.piece.now rest _ n
          c.in-Some.borrowed.frame.now before _ _ d begun.1 did.0 did.1;
    })

pub returns-in_err-on_frame-clause-err : goal.returns-in_err-on_frame-clause-err
returns-in_err-on_frame-clause-err g c =
    let p = err_from_is_err_and c.from_residual.result c.from_residual.ensures.1 in
    rw p.1
    (λ first kind octets before h.
    handled_part _ _ c.loop-rest.scanner kind octets c.args.piece.now c.loop-rest.rest.now _ _ _
    (c.loop-rest.invariant.handled first kind octets before h) (ap (then_done before) c.in_err-on_frame.ensures.err))
