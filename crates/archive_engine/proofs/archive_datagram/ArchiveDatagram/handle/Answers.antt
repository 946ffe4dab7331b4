use Rattle.std.proofs.Common.{arith, inl, refl}
use Rattle.std.proofs.lemmas.Result.{on_ok_weaker}
use Rattle.syslog_frame.specs.declared.limits.TheConstants.{FRAME_MAX}
use Rattle.frame_engine.proofs.SessionLemmas.{kept_all, kept_long}
use Rattle.archive_engine.specs.Gathering.{Holds}
use Rattle.archive_engine.specs.GatheringLaws.{gathered_long}
use Rattle.archive_engine.proofs.archive_datagram.ArchiveDatagram.handle.Goals as goal

pub returns-then-len-gt-FRAME_MAX-clause-ok : goal.returns-then-len-gt-FRAME_MAX-clause-ok
returns-then-len-gt-FRAME_MAX-clause-ok c =
    on_ok_weaker c.report.result
    (λ is first given kept stands.
    let long = kept_long FRAME_MAX given c.args.self.now.kept.items kept (omega (arith, c.if-len-gt-FRAME_MAX.true)) in (
      (_, inl (long, refl), is first _ stands),
      (stands.0, λ none. gathered_long Holds first.reading c.args.self.now.gathering.set _ given long (stands.1 none)),
    ))
    c.report.ensures.ok

pub returns-clause-ok : goal.returns-clause-ok
returns-clause-ok c =
    on_ok_weaker c.on_frame.result
    (λ did first given kept stands.
    let all = kept_all FRAME_MAX given c.args.self.now.kept.items kept (omega (arith, c.if-len-gt-FRAME_MAX.false)) in
    rw (c.as_slice.ensures.value, all) at (did first _ stands))
    c.on_frame.ensures.ok
