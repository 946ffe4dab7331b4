use Rattle.std.proofs.Common.{List, ℕ, [], ◌∷◌, ◌++◌, ap, subst, sym, take, ◌∙◌}
use Rattle.std.proofs.lemmas.List.{take_more}
use Rattle.store_upkeep.specs.Compaction.{AreDayNames}
use Rattle.store_upkeep.proofs.DayJoins.{day_names_none}
use Rattle.store_upkeep.proofs.segments.names_of_day.Goals as goal

pub names-init : goal.names-init
names-init c =
    subst (λ (l : List (List ℕ)). AreDayNames [] c.args.period.now l) (sym c.new-segments.ensures.items)
    (day_names_none c.args.period.now)

pub names-preserved : goal.names-preserved
names-preserved c =
    let first = take c.names.name-index c.args.names.now in
    let more = take_more c.args.names.now c.names.name-index c.name-item.result c.names-test.true
    ∙ ap (λ (n : List ℕ). first ++ n ∷ []) (sym c.name-item.is) in
    subst (λ (l : List (List ℕ)). AreDayNames l c.args.period.now c.add_segment.new.segments.items) (sym more)
    (c.in_ok-add_segment.ensures first c.names.invariant)
