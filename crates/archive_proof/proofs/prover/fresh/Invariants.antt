use Rattle.std.proofs.Common.{◌≤◌, ◌-◌, length}
use Rattle.std.specs.List.{AllByRecursion}
use Rattle.archive_proof.specs.Proving.{IsFresh}
use Rattle.archive_proof.proofs.prover.fresh.Given as goal

abbrev pub invariant-searches : goal.invariant-searches
invariant-searches l = record {
  few : length l.searches.items ≤ l.count;
  each : AllByRecursion IsFresh l.searches.items;
}

abbrev pub decreases-searches : goal.decreases-searches
decreases-searches l = l.count - length l.searches.items
