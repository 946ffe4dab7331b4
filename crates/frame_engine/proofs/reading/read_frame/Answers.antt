use Rattle.std.proofs.lemmas.Result.{IfOk-weaker}
use Rattle.frame_engine.proofs.ReadingLemmas.{frame_reading}
use Rattle.frame_engine.proofs.reading.read_frame.Goals as goal

pub returns-clause-reading : goal.returns-clause-reading
returns-clause-reading c =
    IfOk-weaker c.read_octets.result _ _
    (λ read is. frame_reading c.args.reading c.args.frame.now c.octets.result.now read c.if-frame-gt-FRAME_MAX.false
    c.octets.ensures.value is)
    c.read_octets.ensures.reading
