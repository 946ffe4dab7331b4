use Rattle.std.proofs.Common.{◌+◌, ◌≤◌, length}
use Rattle.std.specs.Prelude.{reverse}
use Rattle.std.specs.Vec.{vec_capacity, vec_len}
use Rattle.reconcile.proofs.Merges.{IsMerging}
use Rattle.reconcile.proofs.merging.merge.Given as goal

abbrev pub invariant-merging : goal.invariant-merging
invariant-merging l = record {
  merging : IsMerging l.fn.places.items l.fn.others.items l.places.items l.others.items (reverse l.whole.items);
  room : vec_len l.whole + (length l.places.items + length l.others.items) ≤ vec_capacity l.whole;
}

abbrev pub decreases-merging : goal.decreases-merging
decreases-merging l = length l.places.items + length l.others.items
