use Rattle.std.proofs.Common.{◌≡◌, ◌∙◌, ◌++◌, arith, refl, take}
use Rattle.std.proofs.lemmas.Result.{err_from_is_err_and}
use Rattle.std.proofs.lemmas.List.{length-take}
use Rattle.driver.specs.Effects.{done_of}
use Rattle.archive_engine.proofs.SpilledLines.{never_ends, not_yet, piece_consumed, read_ends, read_fails, read_finishes}
use Rattle.archive_engine.proofs.SpilledLines.{noted_ended, noted_goes, read_stops, stops_at_end, whole_items}
use Rattle.archive_engine.proofs.archive_spilled.gather.Goals as goal

pub loop-turn-init : goal.loop-turn-init
loop-turn-init g c = record {
  reached = λ first kind h. not_yet first.reading _ _ kind _ _ _ _ h c.new-effects.ensures;
  reading = c.requires.reading;
  position = omega (arith, c.requires.position);
  number = omega (arith, c.requires.number);
  size = omega (arith, c.in-Ok.ensures.len);
  calls = λ small. omega arith;
  sound = refl;
  ends = refl;
}

pub returns-in_default-read : goal.returns-in_default-read
returns-in_default-read g c = λ first kind h.
    let i = c.loop-turn.invariant in
    read_fails first.reading _ _ _ kind _ c.loop-turn._turn _ _ _ _ _ (done_of c.loop-turn.effects) i.reading
    (i.reached first kind h) (omega (arith, c.loop-turn-test.true)) i.calls i.sound i.ends c.in_default-read.ensures

pub take_end-requires : goal.take_end-requires
take_end-requires g c = c.loop-turn.invariant.reading

pub returns-in_err-take_end : goal.returns-in_err-take_end
returns-in_err-take_end g c = λ first kind h.
    let i = c.loop-turn.invariant in
    let r = i.reached first kind h in
    let p = err_from_is_err_and c.from_residual.result c.from_residual.ensures.1 in
    rw (p.1, p.2) (read_stops _ first.reading _ kind c.loop-turn._turn c.in-Ok-read.n c.read.new.buf r.given _ _ _ _ _
    (omega (arith, c.loop-turn-test.true)) i.calls i.sound i.ends (omega (arith, i.size)) c.in-Ok-read.ensures r.consumed
    (stops_at_end _ first.reading kind c.in-Ok-read.n c.read.new.buf r.given _ _ c.if-n-eq0.true
    (c.in_err-take_end.ensures _ first kind r.given r.noted)))

pub returns-then-n-eq0 : goal.returns-then-n-eq0
returns-then-n-eq0 g c = λ first kind h.
    let i = c.loop-turn.invariant in
    let r = i.reached first kind h in
    read_ends first.reading _ kind c.loop-turn._turn c.in-Ok-read.n c.read.new.buf r.given _ _ _ _ _
    (done_of c.take_end.new.effects) _ (omega (arith, c.loop-turn-test.true)) i.calls i.sound i.ends
    (omega (arith, i.size)) c.in-Ok-read.ensures c.if-n-eq0.true r.consumed
    (c.in_ok-take_end.ensures _ first kind r.given r.noted) refl

pub take_piece-requires-clause-reading : goal.take_piece-requires-clause-reading
take_piece-requires-clause-reading g c = c.loop-turn.invariant.reading

pub take_piece-requires-clause-near : goal.take_piece-requires-clause-near
take_piece-requires-clause-near g c =
    let i = c.loop-turn.invariant in
    omega (
      arith,
      i.position,
      i.size,
      c.loop-turn-test.true,
      c.in-Ok-read.ensures.within,
      c.deref_mut.ensures.len,
      length-take c.in-Ok-read.n c.deref.result.now,
    )

pub take_piece-requires-clause-few : goal.take_piece-requires-clause-few
take_piece-requires-clause-few g c =
    let i = c.loop-turn.invariant in
    omega (
      arith,
      i.number,
      i.size,
      c.loop-turn-test.true,
      c.in-Ok-read.ensures.within,
      c.deref_mut.ensures.len,
      length-take c.in-Ok-read.n c.deref.result.now,
    )

pub returns-in_err-take_piece : goal.returns-in_err-take_piece
returns-in_err-take_piece g c = λ first kind h.
    let i = c.loop-turn.invariant in
    let r = i.reached first kind h in
    let same : c.deref.result.now ≡ c.read.new.buf =
    c.deref.ensures.value ∙ whole_items c.loop-turn.piece.len c.read.new.buf c.loop-turn.piece.items
    (omega (arith, i.size, c.loop-turn.piece.ok.0, c.deref_mut.ensures.len)) in
    let p = err_from_is_err_and c.from_residual-in_err-take_piece.result
    c.from_residual-in_err-take_piece.ensures.1 in
    rw (p.1, p.2) (read_stops _ first.reading _ kind c.loop-turn._turn c.in-Ok-read.n c.read.new.buf r.given _ _ _ _ _
    (omega (arith, c.loop-turn-test.true)) i.calls i.sound i.ends (omega (arith, i.size)) c.in-Ok-read.ensures r.consumed
    (rw same at (c.in_err-take_piece.ensures.takes _ first kind r.given r.noted)))

pub returns-in-Finished : goal.returns-in-Finished
returns-in-Finished g c = λ first kind h.
    let i = c.loop-turn.invariant in
    let r = i.reached first kind h in
    let same : c.deref.result.now ≡ c.read.new.buf =
    c.deref.ensures.value ∙ whole_items c.loop-turn.piece.len c.read.new.buf c.loop-turn.piece.items
    (omega (arith, i.size, c.loop-turn.piece.ok.0, c.deref_mut.ensures.len)) in
    read_finishes first.reading _ kind c.loop-turn._turn c.in-Ok-read.n c.read.new.buf r.given _ _ _ _ _
    (done_of c.take_piece.new.effects) _ (omega (arith, c.loop-turn-test.true)) i.calls i.sound i.ends
    (omega (arith, i.size)) c.in-Ok-read.ensures r.consumed
    (noted_ended _ _ c.take_piece.new.stream.scanner _ _ c.take_piece.new.stream.number _ _ _
    (rw (c.in-Finished.is, same) at (c.in_ok-take_piece.ensures.takes _ first kind r.given r.noted))) refl

pub loop-turn-preserved : goal.loop-turn-preserved
loop-turn-preserved g c =
    let i = c.loop-turn.invariant in
    let same : c.deref.result.now ≡ c.read.new.buf =
    c.deref.ensures.value ∙ whole_items c.loop-turn.piece.len c.read.new.buf c.loop-turn.piece.items
    (omega (arith, i.size, c.loop-turn.piece.ok.0, c.deref_mut.ensures.len)) in
    let len = length-take c.in-Ok-read.n c.deref.result.now in
    record {
      reached = λ first kind h.
          let r = i.reached first kind h in
          record {
            given = r.given ++ take c.in-Ok-read.n c.read.new.buf;
            consumed = piece_consumed (g.R.Input.state c.args.input.now) (g.R.Input.state c.loop-turn.input)
                (g.R.Input.state c.read.new.self) c.read.new.buf r.given c.in-Ok-read.n r.consumed c.in-Ok-read.ensures;
            noted = noted_goes _ _ _ _ _ _ _ _ _
                (rw (c.in-Continue.is, same) at (c.in_ok-take_piece.ensures.takes _ first kind r.given r.noted));
          };
      reading = c.in_ok-take_piece.ensures.reading c.in-Continue.is;
      position = omega (
        arith,
        i.position,
        c.in_ok-take_piece.ensures.position c.in-Continue.is,
        len,
        i.size,
        c.deref_mut.ensures.len,
        c.in-Ok-read.ensures.within,
      );
      number = omega (
        arith,
        i.number,
        c.take_piece.ensures.number,
        len,
        i.size,
        c.deref_mut.ensures.len,
        c.in-Ok-read.ensures.within,
      );
      size = omega (arith, i.size);
      calls = λ small. omega (arith, i.calls small, c.in-Ok-read.ensures.counted, small.0, c.loop-turn-test.true);
      sound = c.in-Ok-read.ensures.no_failure ∙ i.sound;
      ends = c.in-Ok-read.ensures.no_end (omega (arith, c.if-n-eq0.false)) ∙ i.ends;
    }

pub returns : goal.returns
returns g c = λ first kind h.
    let i = c.loop-turn.invariant in
    never_ends first.reading _ _ _ kind _ c.loop-turn._turn _ _ _ _ (done_of c.loop-turn.effects) i.reading
    (i.reached first kind h) (omega (arith, c.loop-turn-test.false)) i.calls i.sound i.ends
