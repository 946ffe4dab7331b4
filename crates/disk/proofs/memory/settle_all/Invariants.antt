use Rattle.disk.proofs.Lookups.{AreKeptTo}
use Rattle.disk.proofs.memory.settle_all.Given as goal

abbrev pub invariant-loop-entry : goal.invariant-loop-entry
invariant-loop-entry l = AreKeptTo l.entry-index l.initial.entries l.entries
