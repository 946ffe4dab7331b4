use Rattle.std.proofs.Common.{◌∙◌, ◌+◌, arith}
use Rattle.syslog_frame.specs.declared.limits.TheConstants.{FRAME_MAX}
use Rattle.frame_engine.proofs.SessionLemmas.{kept_more}
use Rattle.archive_engine.proofs.archive_datagram.ArchiveDatagramSession.take.Goals as goal

pub returns : goal.returns
returns c = λ first given before stands so_far few. (
  (
    stands.0,
    stands.1,
    c.in_ok-extend_from_slice.ensures.items
        ∙ kept_more (FRAME_MAX + 1) c.min-room.result given c.args.piece.now c.args.self.now.kept.items stands.2
        (omega arith),
  ),
  so_far,
)
