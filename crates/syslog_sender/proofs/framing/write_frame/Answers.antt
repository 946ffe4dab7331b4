use Rattle.std.proofs.lemmas.Result.{err_from_is_err_and}
use Rattle.syslog_sender.proofs.framing.write_frame.Goals as goal

pub returns-in_err-frame-clause-sends : goal.returns-in_err-frame-clause-sends
returns-in_err-frame-clause-sends g c =
    let p = err_from_is_err_and c.from_residual.result c.from_residual.ensures.1 in
    rw (p.1, p.2) (c.in_err-frame.ensures.err _ _)
