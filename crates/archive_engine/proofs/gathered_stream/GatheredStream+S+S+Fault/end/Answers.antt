use Rattle.std.proofs.Common.{sym}
use Rattle.std.proofs.lemmas.Result.{on_ok_weaker}
use Rattle.driver.specs.Effects.{done_of, nothing}
use Rattle.frame_engine.specs.Converted.{noted_line}
use Rattle.frame_engine.proofs.HandlingLemmas.{then_nothing}
use Rattle.frame_engine.proofs.SessionLemmas.{match_result}
use Rattle.archive_engine.specs.Gathering.{GathersFrom}
use Rattle.archive_engine.proofs.SpilledLines.{end_ends}
use Rattle.archive_engine.proofs.gathered_stream.GatheredStream+S+S+Fault.end.Goals as goal

pub returns-in_default : goal.returns-in_default
returns-in_default g c = λ first kind given before h.
    let line = c.end_line.ensures noted_line kind given h.frames h.rest h.reads in
    end_ends first.reading (GathersFrom g.S.RecordSet.holds first c.args.self.now.gathering) kind
    given h.frames h.rest before (done_of c.args.effects.now) (done_of c.args.effects.now) nothing line.0 h.handled
    (rw c.in_default.is at line.1) h.stands (sym (then_nothing (done_of c.args.effects.now)))

pub returns : goal.returns
returns g c =
    match_result c.add_refusal.result _ _
    (on_ok_weaker c.add_refusal.result
    (λ is. λ first kind given before h.
    let line = c.end_line.ensures noted_line kind given h.frames h.rest h.reads in
    end_ends first.reading (GathersFrom g.S.RecordSet.holds first c.args.self.now.gathering) kind
    given h.frames h.rest before (done_of c.args.effects.now) (done_of c.add_refusal.new.effects)
    (noted_line c.in-Some.line) line.0 h.handled (rw c.in-Some.is at line.1) h.stands is)
    c.add_refusal.ensures.ok)
    c.add_refusal.ensures.err
