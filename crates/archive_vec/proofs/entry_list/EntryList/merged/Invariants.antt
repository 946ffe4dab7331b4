use Rattle.std.proofs.Common.{◌+◌, ◌-◌, ◌≤◌, length}
use Rattle.archive_vec.proofs.MergingSteps.{IsMerging}
use Rattle.archive_vec.proofs.entry_list.EntryList.merged.Given as goal

abbrev pub invariant-loop-i : goal.invariant-loop-i
invariant-loop-i l = record {
  left : l.i ≤ length l.self;
  right : l.j ≤ length l.other;
  merging : IsMerging l.self l.other l.list l.i l.j;
}

abbrev pub decreases-loop-i : goal.decreases-loop-i
decreases-loop-i l = (length l.self - l.i) + (length l.other - l.j)
