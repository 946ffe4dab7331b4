use Rattle.std.proofs.Common.{◌++◌, arith, refl}
use Rattle.std.proofs.lemmas.List.{length-append}
use Rattle.std.proofs.lemmas.Result.{err_from_is_err_and}
use Rattle.driver.specs.Effects.{done_of, then_done}
use Rattle.frame_engine.proofs.SessionLemmas.{goes_on, handled_of}
use Rattle.archive_sorting.specs.Records.{entries_in}
use Rattle.archive_engine.specs.Archived.{archive_handling}
use Rattle.archive_engine.proofs.GatheredSets.{stream_settled}
use Rattle.archive_engine.proofs.archive_stream.ArchiveStreamSession.take.Goals as goal

pub returns-in_err-take : goal.returns-in_err-take
returns-in_err-take c = λ first given before s so_far few.
    let h = handled_of (archive_handling first.stream.gathering.reading) _ first.stream.scanner.framing
    c.args.self.now.stream.scanner c.args.self.now.stream.number given s.1.frames s.1.rest
    (then_done before (done_of c.args.effects.now)) (c.args.self.now.reading s.1.goes_on) s.1.reads s.1.stands
    s.1.number_is so_far in
    let p = err_from_is_err_and c.from_residual.result c.from_residual.ensures.1 in
    rw p.1 (c.in_err-take.ensures.err first.stream.gathering first.stream.scanner.framing given before h)

pub returns-in-Continue : goal.returns-in-Continue
returns-in-Continue c = λ first given before s so_far few.
    let D = archive_handling first.stream.gathering.reading in
    let h = handled_of D _ first.stream.scanner.framing
    c.args.self.now.stream.scanner c.args.self.now.stream.number given s.1.frames s.1.rest
    (then_done before (done_of c.args.effects.now)) (c.args.self.now.reading s.1.goes_on) s.1.reads s.1.stands
    s.1.number_is so_far in
    let on = rw c.in-Continue.is at
    (c.in_ok-take.ensures.takes first.stream.gathering first.stream.scanner.framing given before h) in (
      (
        s.0,
        record {
          frames = on.frames;
          rest = on.rest;
          reads = on.reads;
          stands = on.stands;
          number_is = on.number_is;
          room_is = omega (arith, s.1.room_is, length-append given c.args.piece.now, c.if-piece-self.false);
          goes_on = refl;
        },
      ),
      goes_on D _ first.stream.scanner.framing c.take.new.self.scanner (given ++ c.args.piece.now) c.take.new.self.number
          (then_done before (done_of c.take.new.effects)) (c.in_ok-take.ensures.reading c.in-Continue.is) on,
    )

pub returns-in-Finished : goal.returns-in-Finished
returns-in-Finished c = λ first given before s so_far few.
    let h = handled_of (archive_handling first.stream.gathering.reading) _ first.stream.scanner.framing
    c.args.self.now.stream.scanner c.args.self.now.stream.number given s.1.frames s.1.rest
    (then_done before (done_of c.args.effects.now)) (c.args.self.now.reading s.1.goes_on) s.1.reads s.1.stands
    s.1.number_is so_far in
    let ends = rw c.in-Finished.is at
    (c.in_ok-take.ensures.takes first.stream.gathering first.stream.scanner.framing given before h) in
    λ more. stream_settled first.stream.gathering c.take.new.self.gathering first.stream.scanner.framing _
    (then_done before (done_of c.take.new.effects)) (entries_in c.settle.result) c.settle.result.sorted c.settle.ensures
    s.0 (ends more)
