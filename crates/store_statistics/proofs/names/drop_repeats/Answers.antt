use Rattle.std.proofs.Common.{rules}
use Rattle.std.specs.Cmp.Lexicographic.{slice_cmp}
use Rattle.std.specs.Ordering.{eq_by_cmp, nat_cmp}
use Rattle.std.proofs.lemmas.Fn.{dedup_same}
use Rattle.store_statistics.proofs.names.drop_repeats.Goals as goal

pub returns : goal.returns
returns c = dedup_same _ (eq_by_cmp (slice_cmp nat_cmp)) _ (λ x y b f p q k. search rules) _ _ c.dedup_by.ensures.filtered
