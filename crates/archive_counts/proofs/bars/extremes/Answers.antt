use Rattle.std.proofs.Common.{ℕ, List, length, max, ap, ◌∙◌}
use Rattle.archive_counts.proofs.Scales.{largest_step, longest_step}
use Rattle.archive_counts.proofs.bars.extremes.Goals as goal

pub rows-preserved : goal.rows-preserved
rows-preserved c = record {
  most =
      c.max-largest.ensures
      ∙ largest_step c.args.rows.now c.rows.row-index c.row-item.result c.rows.largest c.rows-test.true c.row-item.is
      c.rows.invariant.most;
  furthest =
      c.max-longest.ensures
      ∙ ap (λ (v : List ℕ). max c.rows.longest (length v)) c.as_slice.ensures.value
      ∙ longest_step c.args.rows.now c.rows.row-index c.row-item.result c.rows.longest c.rows-test.true c.row-item.is
      c.rows.invariant.furthest;
}
