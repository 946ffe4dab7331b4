use Rattle.std.proofs.Common.{take}
use Rattle.record_store.specs.Names.{AreNumbersOf}
use Rattle.record_store.proofs.names.numbers_up_to.Given as goal

abbrev pub invariant-loop-name : goal.invariant-loop-name
invariant-loop-name l = AreNumbersOf (take l.name-index l.names) l.last l.numbers.items
