use Rattle.std.proofs.Common.{arith}
use Rattle.std.proofs.lemmas.Result.{on_ok_weaker}
use Rattle.syslog_frame.specs.declared.limits.TheConstants.{FRAME_MAX}
use Rattle.frame_engine.proofs.SessionLemmas.{kept_all, kept_long}
use Rattle.frame_engine.proofs.datagram_session.DatagramSession.handle.Goals as goal

pub returns-then-len-gt-FRAME_MAX-clause-ok : goal.returns-then-len-gt-FRAME_MAX-clause-ok
returns-then-len-gt-FRAME_MAX-clause-ok g c =
    on_ok_weaker c.report.result
    (λ is first given kept stands.
    let long = kept_long FRAME_MAX given c.args.self.now.kept.items kept (omega (arith, c.if-len-gt-FRAME_MAX.true)) in (
      (_, g.met.D.FrameHandler.long first 1 given long, is first _ stands),
      g.met.D.FrameHandler.passed first c.args.self.now.handler _ given long stands,
    ))
    c.report.ensures.ok

pub returns-clause-ok : goal.returns-clause-ok
returns-clause-ok g c =
    on_ok_weaker c.on_frame.result
    (λ did first given kept stands.
    let all = kept_all FRAME_MAX given c.args.self.now.kept.items kept (omega (arith, c.if-len-gt-FRAME_MAX.false)) in
    rw (c.as_slice.ensures.value, all) at (did first _ stands))
    c.on_frame.ensures.ok
