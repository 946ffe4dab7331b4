use Rattle.archive_sorting.specs.Spans.{IsWithin, blocks_of}
use Rattle.archive_sorting.proofs.SortedSpans.{settled_all, settled_ascending, settled_same}
use Rattle.archive_sorting.proofs.settling.settle.Goals as goal

pub returns-clause-ascending : goal.returns-clause-ascending
returns-clause-ascending c =
    settled_ascending (blocks_of c.args.arena.now) _ _ c.sort.ensures.sorted c.drop_repeats.ensures.kept

pub returns-clause-same : goal.returns-clause-same
returns-clause-same c =
    settled_same (blocks_of c.args.arena.now) _ _ _ c.sort.ensures.moved c.drop_repeats.ensures.kept

pub returns-clause-within : goal.returns-clause-within
returns-clause-within c =
    settled_all (IsWithin (blocks_of c.args.arena.now)) (blocks_of c.args.arena.now) _ _ _ c.sort.ensures.moved
    c.drop_repeats.ensures.kept
