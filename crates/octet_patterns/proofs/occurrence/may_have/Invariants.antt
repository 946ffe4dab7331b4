use Rattle.std.proofs.Common.{◌-◌, ◌<◌, ℕ}
use Rattle.memchr.specs.Find.{OccursAt}
use Rattle.octet_patterns.proofs.occurrence.may_have.Given as goal

abbrev pub invariant-loop-from : goal.invariant-loop-from
invariant-loop-from l = (l.from < l.places) × ((k : ℕ) → k < l.from → ¬ (OccursAt l.text l.octets k))

abbrev pub decreases-loop-from : goal.decreases-loop-from
decreases-loop-from l = l.places - l.from
