use Rattle.std.proofs.lemmas.Result.{IfOk-weaker}
use Rattle.syslog_legacy.specs.FrameReadings.{octets_read}
use Rattle.frame_engine.proofs.reading.Reading.to_record.Goals as goal

pub returns-in-Record : goal.returns-in-Record
returns-in-Record c =
    IfOk-weaker c.to_record.result _ _
    (λ r h way f is. let (few, shown) = is in let ((reads, new), shows) = rw c.in-Record.is at shown in
    (few, reads r (h (octets_read way f) shows))) c.to_record.ensures
