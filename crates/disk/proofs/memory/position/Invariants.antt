use Rattle.std.proofs.Common.{take}
use Rattle.disk.specs.Memory.{IsAbsent}
use Rattle.disk.proofs.memory.position.Given as goal

abbrev pub invariant-loop-i : goal.invariant-loop-i
invariant-loop-i l = IsAbsent l.name (take l.i l.entries)
