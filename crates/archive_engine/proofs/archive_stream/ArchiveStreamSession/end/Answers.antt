use Rattle.std.proofs.lemmas.Result.{err_from_is_err_and}
use Rattle.driver.specs.Effects.{done_of, then_done}
use Rattle.frame_engine.proofs.SessionLemmas.{handled_of, part_of, part_same}
use Rattle.archive_sorting.specs.Records.{entries_in}
use Rattle.archive_engine.specs.Archived.{archive_handling}
use Rattle.archive_engine.specs.Gathering.{GathersFrom, Holds}
use Rattle.archive_engine.proofs.GatheredSets.{stream_settled}
use Rattle.archive_engine.proofs.archive_stream.ArchiveStreamSession.end.Goals as goal

pub returns-in_err-end : goal.returns-in_err-end
returns-in_err-end c = λ first given before s so_far.
    let D = archive_handling first.stream.gathering.reading in
    let S = GathersFrom Holds first.stream.gathering c.args.self.now.stream.gathering in
    let h = handled_of D S first.stream.scanner.framing
    c.args.self.now.stream.scanner c.args.self.now.stream.number given s.1.frames s.1.rest
    (then_done before (done_of c.args.effects.now)) (c.args.self.now.reading s.1.goes_on) s.1.reads s.1.stands
    s.1.number_is so_far in
    let p = err_from_is_err_and c.from_residual.result c.from_residual.ensures.1 in
    rw p.1 (part_same D first.stream.scanner.framing given before (done_of c.args.effects.now)
    (done_of c.end.new.effects)
    (part_of D S c.args.self.now.stream.scanner first.stream.scanner.framing given _ _ h) c.in_err-end.ensures)

pub returns : goal.returns
returns c = λ first given before s so_far.
    let h = handled_of (archive_handling first.stream.gathering.reading) _ first.stream.scanner.framing
    c.args.self.now.stream.scanner c.args.self.now.stream.number given s.1.frames s.1.rest
    (then_done before (done_of c.args.effects.now)) (c.args.self.now.reading s.1.goes_on) s.1.reads s.1.stands
    s.1.number_is so_far in
    stream_settled first.stream.gathering c.args.self.now.stream.gathering first.stream.scanner.framing given
    (then_done before (done_of c.end.new.effects)) (entries_in c.settle.result) c.settle.result.sorted c.settle.ensures
    s.0 (c.in_ok-end.ensures first.stream.gathering first.stream.scanner.framing given before h)
