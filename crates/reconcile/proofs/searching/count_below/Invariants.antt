use Rattle.std.proofs.Common.{◌-◌, ◌≤◌, length, take, drop}
use Rattle.std.specs.List.{AllByRecursion}
use Rattle.archive_text.specs.Entries.{IsBelow}
use Rattle.reconcile.proofs.searching.count_below.Given as goal

abbrev pub invariant-halving : goal.invariant-halving
invariant-halving l = record {
  ordered : l.low ≤ l.high;
  within : l.high ≤ length l.places;
  below : AllByRecursion (λ x. IsBelow x l.place) (take l.low l.places);
  above : AllByRecursion (λ x. ¬ (IsBelow x l.place)) (drop l.high l.places);
}

abbrev pub decreases-halving : goal.decreases-halving
decreases-halving l = l.high - l.low
