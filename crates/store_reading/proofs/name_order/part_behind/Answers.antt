use Rattle.std.proofs.Common.{List, ℕ, rules, sym, subst}
use Rattle.std.specs.Prelude.{Contains, not}
use Rattle.std.proofs.lemmas.List.Sorted.{IsPartitionPoint-from_clause}
use Rattle.store_reading.specs.Days.{IsDayBelow}
use Rattle.store_reading.specs.Order.{is_period_below, period_of}
use Rattle.store_reading.proofs.NameOrders.{back_has, behind_all, parted_behind, up_to_all}
use Rattle.store_reading.proofs.name_order.part_behind.Goals as goal

pub returns-clause-back : goal.returns-clause-back
returns-clause-back c =
    let names = c.args.names.now in
    let period = c.args.period.now in
    let point = IsPartitionPoint-from_clause (λ name. not (is_period_below period (period_of name))) names
    c.partition_point-at.result c.partition_point-at.ensures.partitioned (parted_behind names period c.requires.order)
    (λ a r q k. search rules) in
    subst (λ (l : List (List ℕ)). (name : List ℕ) → Contains l name
    → Contains names name × IsDayBelow period (period_of name)) (sym c.split_at.ensures.back)
    (back_has names period c.partition_point-at.result point)

pub returns-clause-up_to : goal.returns-clause-up_to
returns-clause-up_to c =
    let names = c.args.names.now in
    let period = c.args.period.now in
    let point = IsPartitionPoint-from_clause (λ name. not (is_period_below period (period_of name))) names
    c.partition_point-at.result c.partition_point-at.ensures.partitioned (parted_behind names period c.requires.order)
    (λ a r q k. search rules) in
    subst (λ (l : List (List ℕ)). (name : List ℕ) → Contains names name → ¬ (IsDayBelow period (period_of name))
    → Contains l name) (sym c.split_at.ensures.front) (up_to_all names period c.partition_point-at.result point)

pub returns-clause-behind : goal.returns-clause-behind
returns-clause-behind c =
    let names = c.args.names.now in
    let period = c.args.period.now in
    let point = IsPartitionPoint-from_clause (λ name. not (is_period_below period (period_of name))) names
    c.partition_point-at.result c.partition_point-at.ensures.partitioned (parted_behind names period c.requires.order)
    (λ a r q k. search rules) in
    subst (λ (l : List (List ℕ)). (name : List ℕ) → Contains names name → IsDayBelow period (period_of name)
    → Contains l name) (sym c.split_at.ensures.back) (behind_all names period c.partition_point-at.result point)
