use Rattle.std.proofs.Common.{◌≡◌, drop}
use Rattle.commands.specs.Memory.{stored_in}
use Rattle.commands.proofs.memory.MemoryFilesFiles.reader.Given as goal

abbrev pub invariant-loop-file : goal.invariant-loop-file
invariant-loop-file l = stored_in l.name l.file-items ≡ stored_in l.name (drop l.file-index l.file-items)
