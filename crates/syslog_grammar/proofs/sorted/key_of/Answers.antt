use Rattle.std.proofs.Common.{arith}
use Rattle.syslog_grammar.specs.Sorting.{offset_of}
use Rattle.syslog_grammar.proofs.sorted.key_of.Goals as goal

pub returns : goal.returns
unfolding offset_of
returns c = omega (arith, c.requires)
