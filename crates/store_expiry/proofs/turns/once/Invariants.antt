use Rattle.std.proofs.Common.{take}
use Rattle.std.specs.List.Sorted.{IsSortedBy}
use Rattle.store_reading.specs.Order.{is_period_below}
use Rattle.store_expiry.specs.Turns.{AreOnce}
use Rattle.store_expiry.proofs.turns.once.Given as goal

abbrev pub invariant-names : goal.invariant-names
invariant-names l = IsSortedBy is_period_below l.names → AreOnce (take l.at l.names) l.each.items
