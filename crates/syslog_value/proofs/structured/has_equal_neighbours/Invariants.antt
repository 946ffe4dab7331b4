use Rattle.std.proofs.Common.{◌≢◌}
use Rattle.std.specs.List.{AllAdjacentBelow}
use Rattle.syslog_value.proofs.structured.has_equal_neighbours.Given as goal

abbrev pub invariant-loop-offset : goal.invariant-loop-offset
invariant-loop-offset l = AllAdjacentBelow (λ e f. e.id ≢ f.id) l.elements l.offset
