use Rattle.octet_patterns.specs.Globs.{IsRun}
use Rattle.octet_patterns.proofs.Places.{IsNotBefore}
use Rattle.octet_patterns.proofs.glob.behind_first.Given as goal

abbrev pub invariant-places : goal.invariant-places
invariant-places l = IsRun l.run → IsNotBefore l.run l.text l.start
