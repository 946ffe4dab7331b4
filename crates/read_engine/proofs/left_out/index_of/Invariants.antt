use Rattle.std.proofs.Common.{take}
use Rattle.read_engine.specs.LeftOut.{Indexes}
use Rattle.read_engine.proofs.left_out.index_of.Given as goal

abbrev pub invariant-names : goal.invariant-names
invariant-names l = Indexes l.index (take l.name-index l.names)
