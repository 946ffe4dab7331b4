use Rattle.std.proofs.Common.{refl}
use Rattle.syslog_grammar.specs.Sorting.{offset_of}
use Rattle.syslog_grammar.proofs.sorted.offset_of.Goals as goal

pub returns : goal.returns
unfolding offset_of
returns c = refl
