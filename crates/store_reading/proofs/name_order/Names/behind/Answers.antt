use Rattle.std.proofs.Common.{List, ℕ, subst}
use Rattle.std.specs.Prelude.{Contains}
use Rattle.store_reading.specs.Days.{IsDayBelow}
use Rattle.store_reading.specs.Order.{period_of}
use Rattle.store_reading.proofs.name_order.Names.behind.Goals as goal

pub returns-clause-within : goal.returns-clause-within
returns-clause-within c =
    subst (λ (l : List (List ℕ)). (name : List ℕ) → Contains c.part_behind.result.1.now name
    → Contains l name × IsDayBelow c.args.period.now (period_of name)) c.as_slice.ensures.names c.part_behind.ensures.back

pub returns-clause-all : goal.returns-clause-all
returns-clause-all c =
    subst (λ (l : List (List ℕ)). (name : List ℕ) → Contains l name → IsDayBelow c.args.period.now (period_of name)
    → Contains c.part_behind.result.1.now name) c.as_slice.ensures.names c.part_behind.ensures.behind
