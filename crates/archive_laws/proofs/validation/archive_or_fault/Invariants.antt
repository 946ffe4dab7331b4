use Rattle.std.proofs.Common.{length}
use Rattle.archive_text.specs.declared.limits.TheConstants.{ENTRY_MAX}
use Rattle.archive_laws.specs.Judging.{IsRead}
use Rattle.archive_laws.proofs.validation.archive_or_fault.Given as goal

abbrev pub invariant-loop-rest : goal.invariant-loop-rest
invariant-loop-rest l = IsRead ENTRY_MAX l.text l.rest l.last

abbrev pub decreases-loop-rest : goal.decreases-loop-rest
decreases-loop-rest l = length l.rest
