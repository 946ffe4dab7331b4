use Rattle.std.proofs.Common.{arith}
use Rattle.archive_vec.proofs.Finding.{below_up_to, above_from}
use Rattle.archive_vec.proofs.entry_list.EntryList.find_between.Goals as goal

pub loop-low-preserved-in-Less : goal.loop-low-preserved-in-Less
loop-low-preserved-in-Less c =
    let order = c.len-ascending.ensures.archive.ascending in
    let so_far = c.loop-low.invariant in
    record {
      ordered = omega arith;
      within = so_far.within;
      below = below_up_to _ _ _ _ order c.at.ensures c.in-Less.ensures;
      above = so_far.above;
    }

pub loop-low-preserved : goal.loop-low-preserved
loop-low-preserved c =
    let order = c.len-ascending.ensures.archive.ascending in
    let so_far = c.loop-low.invariant in
    record {
      ordered = omega arith;
      within = omega arith;
      below = so_far.below;
      above = above_from _ _ _ _ order c.at.ensures c.in-Greater.ensures;
    }
