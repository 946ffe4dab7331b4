use Rattle.std.proofs.Common.{◌++◌, take, arith, rules, inl, inr}
use Rattle.std.proofs.lemmas.List.{length-drop, take_rest}
use Rattle.syslog_frame.proofs.Delivered.{handled_nothing, handled_frame, handled_bad, handled_all}
use Rattle.syslog_frame.proofs.pieces.read_piece.Goals as goal

pub loop-rest-preserved-in-Nothing : goal.loop-rest-preserved-in-Nothing
loop-rest-preserved-in-Nothing c =
    let rest = c.loop-rest.rest.now in
    let n = c.in-Ok.used in
    rw (take_rest rest n)
    (record {
      reading = elim (rw c.in-Nothing.is at c.in-Ok-deliver.ensures.reports)
          [ inl r ↦ r | inr f ↦ absurd (c.in-Ok.ensures.live f) ];
      bound = λ _. c.in-Ok.ensures.bound;
      position = omega (
        arith,
        c.in-Ok.ensures.position,
        c.in-Ok.ensures.within,
        c.loop-rest.invariant.position,
        length-drop n rest,
      );
      delivered = λ kind octets h.
          let d = c.loop-rest.invariant.delivered kind octets h in
          let on = c.in-Ok.ensures.reads kind 0 (octets ++ d.0) d.2.frames d.2.rest d.2.reads
          (λ b. c.loop-rest.invariant.reading.0 (inr b)) in
          let same = rw c.in-Nothing.is at (c.in-Ok-deliver.ensures.delivers kind ((octets ++ d.0) ++ take n rest)
          d.2.frames (d.2.rest ++ take n rest) on.reads) in
          handled_nothing _ c.loop-rest.scanner c.push.new.self kind octets c.args.piece.now rest _ _ n d on same;
    })

pub returns-in-Bad-clause-delivers : goal.returns-in-Bad-clause-delivers
returns-in-Bad-clause-delivers c = λ kind octets h more.
    let rest = c.loop-rest.rest.now in
    let n = c.in-Ok.used in
    let d = c.loop-rest.invariant.delivered kind octets h in
    let on = c.in-Ok.ensures.reads kind 0 (octets ++ d.0) d.2.frames d.2.rest d.2.reads
    (λ b. c.loop-rest.invariant.reading.0 (inr b)) in
    let reported = rw c.in-Bad.is at (c.in-Ok-deliver.ensures.delivers kind ((octets ++ d.0) ++ take n rest) d.2.frames
    (d.2.rest ++ take n rest) on.reads) in
    handled_bad _ c.loop-rest.scanner c.push.new.self kind octets c.args.piece.now rest _ _ n c.in-Bad.at d on
    (rw c.in-Bad.is at c.in-Ok-deliver.ensures.reports) reported.1 reported.0 more

pub loop-rest-preserved : goal.loop-rest-preserved
loop-rest-preserved c =
    let rest = c.loop-rest.rest.now in
    let n = c.in-Ok.used in
    rw (take_rest rest n)
    (record {
      reading = c.release.ensures.frame (rw c.in-Delivered.is at c.in-Ok-deliver.ensures.reports);
      bound = λ _. omega (arith, c.release.ensures.position, c.in-Ok.ensures.bound);
      position = omega (
        arith,
        c.release.ensures.position,
        c.in-Ok.ensures.position,
        c.in-Ok.ensures.within,
        c.loop-rest.invariant.position,
        length-drop n rest,
      );
      delivered = λ kind octets h.
          let d = c.loop-rest.invariant.delivered kind octets h in
          let on = c.in-Ok.ensures.reads kind 0 (octets ++ d.0) d.2.frames d.2.rest d.2.reads
          (λ b. c.loop-rest.invariant.reading.0 (inr b)) in
          let f = rw c.in-Delivered.is at (c.in-Ok-deliver.ensures.delivers kind ((octets ++ d.0) ++ take n rest)
          d.2.frames (d.2.rest ++ take n rest) on.reads) in
          let begun = c.release.ensures.reads kind 0 ((octets ++ d.0) ++ take n rest) d.2.frames
          (d.2.rest ++ take n rest) f.0 on.reads f.1 in
          handled_frame _ c.loop-rest.scanner c.release.new.self kind octets c.args.piece.now rest _ _ n f.0 d begun
          f.2;
    })

pub returns-clause-delivers : goal.returns-clause-delivers
returns-clause-delivers c = λ kind octets h.
    handled_all _ c.loop-rest.scanner kind octets c.args.piece.now c.loop-rest.rest.now _
    (c.loop-rest.invariant.delivered kind octets h) (search rules)
