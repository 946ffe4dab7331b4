use Rattle.std.proofs.Common.{rules, is_lt}
use Rattle.std.proofs.lemmas.List.Sorted.{ranks_by}
use Rattle.std.proofs.lemmas.Fn.{always_returns_same}
use Rattle.archive_sorting.specs.Settled.{span_cmp}
use Rattle.archive_sorting.specs.Spans.{blocks_of}
use Rattle.archive_sorting.proofs.SortedSpans.{span_cmp_total}
use Rattle.archive_sorting.proofs.settling.sort.Goals as goal

pub returns-clause-sorted : goal.returns-clause-sorted
returns-clause-sorted c =
    let blocks = blocks_of c.args.arena.now in
    c.sort_unstable_by.ensures.sorted (λ a b. is_lt (span_cmp blocks a b))
    (ranks_by (span_cmp_total blocks) (λ x. x)) (always_returns_same _ _ _ (λ a r f k. search rules))
