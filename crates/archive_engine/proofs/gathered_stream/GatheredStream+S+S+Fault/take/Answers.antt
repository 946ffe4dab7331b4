use Rattle.std.proofs.Common.{◌++◌}
use Rattle.std.proofs.lemmas.Result.{err_from_is_err_and}
use Rattle.driver.specs.Effects.{done_of, then_done}
use Rattle.frame_engine.proofs.SessionLemmas.{part_of_bad, part_same}
use Rattle.archive_engine.specs.Archived.{archive_handling}
use Rattle.archive_engine.specs.Gathering.{GathersFrom}
use Rattle.archive_engine.proofs.SpilledLines.{bad_ends}
use Rattle.archive_engine.proofs.gathered_stream.GatheredStream+S+S+Fault.take.Goals as goal

pub returns-in_err-bad-clause-err : goal.returns-in_err-bad-clause-err
returns-in_err-bad-clause-err g c =
    let p = err_from_is_err_and c.from_residual.result c.from_residual.ensures.1 in
    rw p.1 c.in_err-bad.ensures.err

pub returns-in_default-clause-takes : goal.returns-in_default-clause-takes
returns-in_default-clause-takes g c = λ first kind given before h.
    rw c.in_default.is at (c.in_ok-bad.ensures.handles first kind given before h)

pub returns-clause-takes : goal.returns-clause-takes
returns-clause-takes g c = λ first kind given before h more.
    let bad = rw c.in-Some.is at (c.in_ok-bad.ensures.handles first kind given before h) in
    bad_ends first.reading (GathersFrom g.S.RecordSet.holds first c.feed.new.handler) kind _
    c.feed.new.number c.in-Some.at before (done_of c.feed.new.effects) (done_of c.add_refusal.new.effects) (bad more)
    c.in_ok-add_refusal.ensures.ok

pub returns-in_err-add_refusal-clause-err : goal.returns-in_err-add_refusal-clause-err
returns-in_err-add_refusal-clause-err g c =
    let p = err_from_is_err_and c.from_residual-in_err-add_refusal.result
    c.from_residual-in_err-add_refusal.ensures.1 in
    rw p.1 (λ first kind given before h.
    let bad = rw c.in-Some.is at (c.in_ok-bad.ensures.handles first kind given before h) in
    part_same (archive_handling first.reading) kind _ before (done_of c.feed.new.effects)
    (done_of c.add_refusal.new.effects)
    (part_of_bad (archive_handling first.reading)
    (GathersFrom g.S.RecordSet.holds first c.feed.new.handler) kind
    (given ++ c.args.piece.now) c.feed.new.number c.in-Some.at (then_done before (done_of c.feed.new.effects)) bad)
    c.in_err-add_refusal.ensures.err)
