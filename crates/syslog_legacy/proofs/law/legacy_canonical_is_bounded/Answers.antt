use Rattle.syslog_legacy.proofs.Bounds.{legacy_bounded}
use Rattle.syslog_legacy.proofs.law.legacy_canonical_is_bounded.Goals as goal

pub returns : goal.returns
returns c = legacy_bounded
