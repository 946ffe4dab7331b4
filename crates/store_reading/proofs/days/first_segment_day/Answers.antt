use Rattle.std.proofs.Common.{List, ℕ, [], ◌∷◌, ◌++◌, take, sym, ap, subst, ◌∙◌}
use Rattle.std.proofs.lemmas.List.{take_all, take_more}
use Rattle.record_store.specs.Names.{IsSegment}
use Rattle.store_reading.proofs.NameOrders.{NoDays, first_is, no_days, no_days_more}
use Rattle.store_reading.proofs.days.first_segment_day.Goals as goal

pub names-init : goal.names-init
names-init c = no_days

pub names-preserved : goal.names-preserved
names-preserved c =
    let first = take c.names.name-index c.args.names.now in
    let more = take_more c.args.names.now c.names.name-index c.name-item.result c.names-test.true
    ∙ ap (λ (n : List ℕ). first ++ n ∷ []) (sym c.name-item.is) in
    subst NoDays (sym more)
    (no_days_more first c.name-item.result c.as_octets.result.now c.segment_day.result c.names.invariant
    c.as_octets.ensures.value c.in-None.is c.segment_day.ensures.only)

pub returns-in-Some-clause-first : goal.returns-in-Some-clause-first
returns-in-Some-clause-first c =
    first_is c.args.names.now c.names.name-index c.name-item.result c.in-Some.day c.requires c.names.invariant
    c.names-test.true c.name-item.is
    (subst (IsSegment c.in-Some.day) c.as_octets.ensures.value c.in-Some.ensures.some.1)

pub returns-clause-first : goal.returns-clause-first
returns-clause-first c day text have =
    absurd (subst NoDays (take_all c.names.name-index c.args.names.now c.names-test.false) c.names.invariant day text have)
