use Rattle.std.proofs.Common.{take}
use Rattle.store_statistics.specs.Sums.{AreSums}
use Rattle.store_statistics.proofs.sums.sum_of.Given as goal

abbrev pub invariant-files : goal.invariant-files
invariant-files l = AreSums (take l.file-index l.files) l.sum
