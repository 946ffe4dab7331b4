use Rattle.std.proofs.Common.{take}
use Rattle.disk.proofs.Named.{AreNamesOf}
use Rattle.disk.proofs.memory.MemoryDiskDisk.names.Given as goal

abbrev pub invariant-loop-entry : goal.invariant-loop-entry
invariant-loop-entry l = AreNamesOf l.entry-items (take l.entry-index l.entry-items) l.names.items
