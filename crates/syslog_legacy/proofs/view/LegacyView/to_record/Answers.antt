use Rattle.std.proofs.Common.{arith}
use Rattle.syslog_legacy.specs.Views.{legacy_view_parts}
use Rattle.syslog_legacy.proofs.Valid.{held_valid}
use Rattle.syslog_legacy.proofs.view.LegacyView.to_record.Goals as goal

pub known_word-requires : goal.known_word-requires
known_word-requires c = (
  omega arith,
  (held_valid (legacy_view_parts c.args.self.now) c.args.self.now.valid).hostname,
)

pub known_word-requires-2 : goal.known_word-requires-2
known_word-requires-2 c = (
  omega arith,
  (held_valid (legacy_view_parts c.args.self.now) c.args.self.now.valid).app_name,
)

pub known_word-requires-3 : goal.known_word-requires-3
known_word-requires-3 c = (
  omega arith,
  (held_valid (legacy_view_parts c.args.self.now) c.args.self.now.valid).proc_id,
)

pub unreachable-requires : goal.unreachable-requires
unreachable-requires c =
    (rw c.in_default.is at c.in_ok-message.ensures)
    (held_valid (legacy_view_parts c.args.self.now) c.args.self.now.valid).message
