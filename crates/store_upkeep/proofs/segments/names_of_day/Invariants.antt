use Rattle.std.proofs.Common.{take}
use Rattle.store_upkeep.specs.Compaction.{AreDayNames}
use Rattle.store_upkeep.proofs.segments.names_of_day.Given as goal

abbrev pub invariant-names : goal.invariant-names
invariant-names l = AreDayNames (take l.name-index l.names) l.period l.segments.items
