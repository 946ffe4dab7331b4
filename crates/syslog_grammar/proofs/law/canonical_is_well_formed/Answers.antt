use Rattle.syslog_grammar.proofs.CanonicalParses.{canonical_well_formed}
use Rattle.syslog_grammar.proofs.law.canonical_is_well_formed.Goals as goal

pub returns : goal.returns
returns c = canonical_well_formed
