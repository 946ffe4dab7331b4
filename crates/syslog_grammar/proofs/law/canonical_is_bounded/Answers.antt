use Rattle.syslog_grammar.proofs.Bounded.{canonical_bounded}
use Rattle.syslog_grammar.proofs.law.canonical_is_bounded.Goals as goal

pub returns : goal.returns
returns c = canonical_bounded
