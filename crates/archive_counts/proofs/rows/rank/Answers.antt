use Rattle.std.proofs.Common.{rules}
use Rattle.std.specs.Ordering.{is_lt}
use Rattle.std.proofs.lemmas.Fn.{always_returns_same}
use Rattle.archive_counts.specs.Rows.{compare_rows}
use Rattle.archive_counts.proofs.Ranks.{are_ranked, rows_order, same_rows}
use Rattle.archive_counts.proofs.rows.rank.Goals as goal

pub returns-clause-rows : goal.returns-clause-rows
returns-clause-rows c = λ t of. same_rows t c.args.rows.now.items _ c.sort_unstable_by.ensures.permutation of

pub returns-clause-ranked : goal.returns-clause-ranked
returns-clause-ranked c = λ t of.
    are_ranked c.args.order t _
    (c.sort_unstable_by.ensures.sorted (λ r s. is_lt (compare_rows c.args.order r s)) (rows_order c.args.order)
    (always_returns_same _ _ _ (λ a r q k. search rules)))
    (same_rows t c.args.rows.now.items _ c.sort_unstable_by.ensures.permutation of)
