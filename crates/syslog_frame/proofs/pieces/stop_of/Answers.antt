use Rattle.std.proofs.Common.{arith}
use Rattle.syslog_frame.proofs.pieces.stop_of.Goals as goal

pub returns-in-Err-Unterminated : goal.returns-in-Err-Unterminated
returns-in-Err-Unterminated c = λ kind octets frames rest r.
    let q = rw c.in-Err-Unterminated.field-0-is at (c.in-Err-Unterminated.ensures.reads kind 0 octets frames rest r) in
    (q.0, (q.2, q.1, omega (arith, q.3)))
