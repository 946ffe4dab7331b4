use Rattle.archive_sorting.specs.Spans.{IsWithin, blocks_of}
use Rattle.archive_sorting.proofs.SortedSpans.{settled_all, settled_same}
use Rattle.archive_sorting.proofs.settling.shed.Goals as goal

pub returns-clause-same : goal.returns-clause-same
returns-clause-same c =
    settled_same (blocks_of c.args.arena.now) _ _ _ c.sort_by-sorted.ensures.permutation c.drop_repeats.ensures.kept

pub returns-clause-within : goal.returns-clause-within
returns-clause-within c =
    settled_all (IsWithin (blocks_of c.args.arena.now)) (blocks_of c.args.arena.now) _ _ _
    c.sort_by-sorted.ensures.permutation c.drop_repeats.ensures.kept
