use Rattle.std.proofs.Common.{refl, sym, subst, inl, inr, arith}
use Rattle.syslog_frame.specs.Frames.{Frames}
use Rattle.frame_engine.proofs.stream.end_line.Goals as goal

pub returns-in-Ok : goal.returns-in-Ok
returns-in-Ok c = λ T kind octets frames rest r.
    let q = c.in-Ok.ensures.reads kind 0 octets frames rest r in
    (subst (Frames kind octets frames) (sym q.0) q.1, inl (q.0, refl))

pub returns-in-Err-Unterminated : goal.returns-in-Err-Unterminated
returns-in-Err-Unterminated c = λ T kind octets frames rest r.
    let q = rw c.in-Err-Unterminated.field-0-is at (c.in-Err-Unterminated.ensures.reads kind 0 octets frames rest r) in
    (q.0, inr (inl (c.in-Err-Unterminated.start, q.2, q.1, omega (arith, q.3), refl)))
