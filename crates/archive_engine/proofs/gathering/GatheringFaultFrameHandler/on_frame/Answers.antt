use Rattle.std.proofs.lemmas.Result.{on_ok_weaker}
use Rattle.driver.specs.Effects.{done_of}
use Rattle.archive_engine.proofs.GatheringLemmas.{frame_added, frame_refused}
use Rattle.archive_engine.proofs.gathering.GatheringFaultFrameHandler.on_frame.Goals as goal

pub returns-in-Ok-clause-ok : goal.returns-in-Ok-clause-ok
returns-in-Ok-clause-ok g c =
    on_ok_weaker c.add.result
    (λ gathered. λ first frames s.
    frame_added g.S.RecordSet.holds first c.args.self.now c.add.new.self c.args.number c.args.frame.now
    frames (done_of c.args.effects.now) c.in-Ok.ensures.some c.add.ensures.reading
    (gathered c.args.frame.now frames c.in-Ok.ensures.reading) s)
    c.add.ensures.gathered

pub returns-in-Err-clause-ok : goal.returns-in-Err-clause-ok
returns-in-Err-clause-ok g c =
    on_ok_weaker c.add_refusal.result
    (λ is. λ first frames s.
    frame_refused g.S.RecordSet.holds first c.args.self.now c.args.number c.args.frame.now frames
    c.in-Err.line (done_of c.args.effects.now) (done_of c.add_refusal.new.effects) c.in-Err.ensures.refused is s)
    c.add_refusal.ensures.ok
