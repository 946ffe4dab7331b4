use Rattle.std.proofs.Common.{List, ℕ, subst}
use Rattle.std.specs.Prelude.{Contains}
use Rattle.record_store.specs.Names.{IsSegment}
use Rattle.store_reading.proofs.NameOrders.{own_all}
use Rattle.store_reading.proofs.name_order.Names.of.Goals as goal

pub returns-clause-within : goal.returns-clause-within
returns-clause-within c name has =
    subst (λ (l : List (List ℕ)). Contains l name) c.as_slice.ensures.names
    (c.from_period.ensures.within name (c.part_behind.ensures.front name has))

pub returns-clause-all : goal.returns-clause-all
returns-clause-all c =
    subst (λ (l : List (List ℕ)). (name : List ℕ) → Contains l name → IsSegment c.args.period.now name
    → Contains c.part_behind.result.0.now name) c.as_slice.ensures.names
    (own_all c.as_slice.result.now c.from_period.result.now c.part_behind.result.0.now c.args.period.now
    c.from_period.ensures.all c.part_behind.ensures.up_to)
