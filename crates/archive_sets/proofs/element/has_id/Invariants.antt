use Rattle.std.proofs.Common.{length}
use Rattle.syslog_reading.specs.PartsLeft.{elements_left}
use Rattle.archive_sets.proofs.Ids.{IsSearched}
use Rattle.archive_sets.proofs.element.has_id.Given as goal

abbrev pub invariant-elements : goal.invariant-elements
invariant-elements l = IsSearched l.id (elements_left l.fn.elements) (elements_left l.rest)

abbrev pub decreases-elements : goal.decreases-elements
decreases-elements l = length (elements_left l.rest)
