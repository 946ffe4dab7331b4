use Rattle.std.proofs.Common.{◌∙◌, ap}
use Rattle.archive_pages.specs.Paged.{entries_in}
use Rattle.archive_spill.proofs.spilled.SpilledArchive+P+P+Run.gather.Goals as goal

pub loop-self-preserved : goal.loop-self-preserved
loop-self-preserved g c = record {
  keeps = λ es h. c.in_ok-join_last.ensures.ok es (c.loop-self.invariant.keeps es h);
  none = ap entries_in c.in_ok-join_last.ensures.pages ∙ c.loop-self.invariant.none;
}
