use Rattle.std.proofs.Common.{take}
use Rattle.archive_tree.specs.Archives.{texts_of}
use Rattle.archive_tree.specs.Trees.{HasTaken}
use Rattle.c_library.proofs.root.head_of.Given as goal

abbrev pub invariant-entries : goal.invariant-entries
invariant-entries l = HasTaken l.tree (take l.index (texts_of l.archive.list))
