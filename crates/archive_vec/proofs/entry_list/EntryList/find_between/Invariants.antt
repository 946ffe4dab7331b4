use Rattle.std.proofs.Common.{◌-◌, ◌≤◌, length, take, drop}
use Rattle.std.specs.List.{AllByRecursion}
use Rattle.archive_text.specs.Entries.{IsBelow}
use Rattle.archive_text.specs.EntryViews.{entry_of}
use Rattle.archive_vec.proofs.entry_list.EntryList.find_between.Given as goal

abbrev pub invariant-loop-low : goal.invariant-loop-low
invariant-loop-low l = record {
  ordered : l.low ≤ l.high;
  within : l.high ≤ length l.self;
  below : AllByRecursion (λ x. IsBelow x (entry_of l.entry)) (take l.low l.self);
  above : AllByRecursion (IsBelow (entry_of l.entry)) (drop l.high l.self);
}

abbrev pub decreases-loop-low : goal.decreases-loop-low
decreases-loop-low l = l.high - l.low
