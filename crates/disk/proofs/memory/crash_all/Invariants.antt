use Rattle.disk.proofs.Leaving.{AreLeftTo}
use Rattle.disk.proofs.memory.crash_all.Given as goal

abbrev pub invariant-loop-entry : goal.invariant-loop-entry
invariant-loop-entry l = AreLeftTo l.entry-index l.initial.entries l.entries
