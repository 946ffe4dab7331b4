use Rattle.std.proofs.Common.{length}
use Rattle.syslog_reading.proofs.OwnedParts.{ElementsRead, ElementsOrNil}
use Rattle.syslog_reading.proofs.owned.to_elements.Given as goal

abbrev pub invariant-loop-first : goal.invariant-loop-first
invariant-loop-first l = ElementsRead l.octets l.rest l.elements.items × ∥ ElementsOrNil l.rest ∥₁

abbrev pub decreases-loop-first : goal.decreases-loop-first
decreases-loop-first l = length l.rest
