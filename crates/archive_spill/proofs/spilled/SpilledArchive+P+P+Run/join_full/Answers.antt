use Rattle.std.proofs.Common.{◌∙◌}
use Rattle.archive_spill.proofs.spilled.SpilledArchive+P+P+Run.join_full.Goals as goal

pub loop-count-preserved : goal.loop-count-preserved
loop-count-preserved g c = record {
  keeps = λ es h. c.in_ok-join_last.ensures.ok es (c.loop-count.invariant.keeps es h);
  pages = c.in_ok-join_last.ensures.pages ∙ c.loop-count.invariant.pages;
  lost = c.in_ok-join_last.ensures.lost ∙ c.loop-count.invariant.lost;
  limit = c.in_ok-join_last.ensures.limit ∙ c.loop-count.invariant.limit;
}
