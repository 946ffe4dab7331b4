use Rattle.std.proofs.Common.{◌≡◌, take}
use Rattle.store_upkeep.specs.Damages.{names_of as names_in}
use Rattle.read_engine.proofs.partial.names_of.Given as goal

abbrev pub invariant-files : goal.invariant-files
invariant-files l = l.names.items ≡ names_in (take l.file-index l.damaged)
