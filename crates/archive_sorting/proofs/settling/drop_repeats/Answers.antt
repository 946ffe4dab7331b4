use Rattle.std.proofs.Common.{rules}
use Rattle.std.specs.Ordering.{eq_by_cmp}
use Rattle.std.proofs.lemmas.Fn.{dedup_same}
use Rattle.archive_sorting.specs.Settled.{span_cmp}
use Rattle.archive_sorting.specs.Spans.{blocks_of}
use Rattle.archive_sorting.proofs.settling.drop_repeats.Goals as goal

pub returns-clause-kept : goal.returns-clause-kept
returns-clause-kept c =
    dedup_same _ (eq_by_cmp (span_cmp (blocks_of c.args.arena.now))) _ (λ x y b f p q k. search rules) _ _
    c.dedup_by.ensures.filtered
