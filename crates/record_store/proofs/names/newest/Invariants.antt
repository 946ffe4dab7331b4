use Rattle.std.proofs.Common.{take}
use Rattle.record_store.specs.Names.{IsNewest}
use Rattle.record_store.proofs.names.newest.Given as goal

abbrev pub invariant-loop-name : goal.invariant-loop-name
invariant-loop-name l = IsNewest (take l.name-index l.names) l.newest
