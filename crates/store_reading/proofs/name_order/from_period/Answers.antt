use Rattle.std.proofs.Common.{List, ℕ, rules, sym, subst}
use Rattle.std.specs.Prelude.{Contains}
use Rattle.std.proofs.lemmas.List.Sorted.{IsPartitionPoint-from_clause}
use Rattle.store_reading.specs.Days.{IsDayBelow}
use Rattle.store_reading.specs.Order.{is_period_below, period_of}
use Rattle.store_reading.proofs.NameOrders.{from_all, parted_before}
use Rattle.store_reading.proofs.name_order.from_period.Goals as goal

pub returns-clause-all : goal.returns-clause-all
returns-clause-all c =
    let names = c.args.names.now in
    let period = c.args.period.now in
    let point = IsPartitionPoint-from_clause (λ name. is_period_below (period_of name) period) names
    c.partition_point-at.result c.partition_point-at.ensures.partitioned (parted_before names period c.requires.order)
    (λ a r q k. search rules) in
    subst (λ (l : List (List ℕ)). (name : List ℕ) → Contains names name → ¬ (IsDayBelow (period_of name) period)
    → Contains l name) (sym c.split_at.ensures.back) (from_all names period c.partition_point-at.result point)
