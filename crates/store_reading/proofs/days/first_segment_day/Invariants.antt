use Rattle.std.proofs.Common.{take}
use Rattle.store_reading.proofs.NameOrders.{NoDays}
use Rattle.store_reading.proofs.days.first_segment_day.Given as goal

abbrev pub invariant-names : goal.invariant-names
invariant-names l = NoDays (take l.name-index l.names)
