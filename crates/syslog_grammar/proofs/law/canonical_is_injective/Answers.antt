use Rattle.syslog_grammar.proofs.CanonicalParses.{canonical_injective}
use Rattle.syslog_grammar.proofs.law.canonical_is_injective.Goals as goal

pub returns : goal.returns
returns c = canonical_injective
