use Rattle.std.proofs.Common.{◌≡◌, false, List, ℕ, [], ◌∷◌, ◌++◌, ap, rules, sym, subst, ◌∙◌}
use Rattle.std.proofs.lemmas.Bool.{false≢true}
use Rattle.record_store.specs.Names.{IsSegment}
use Rattle.store_upkeep.specs.Compaction.{AreDayNames}
use Rattle.store_upkeep.proofs.DayJoins.{day_names_more, day_names_other}
use Rattle.store_upkeep.proofs.segments.add_segment.Goals as goal

pub returns-then-not-is_segment_of : goal.returns-then-not-is_segment_of
returns-then-not-is_segment_of c names found =
    day_names_other names _ c.args.name.now c.args.period.now found
    (λ segment. let off : c.is_segment_of.result ≡ false = search rules in
    false≢true (sym off
    ∙ c.is_segment_of.ensures.1 (subst (IsSegment c.args.period.now) (sym c.as_octets.ensures.value) segment)))

pub returns : goal.returns
returns c names found =
    let name = c.args.name.now in
    let day = c.args.period.now in
    let segment = subst (IsSegment day) c.as_octets.ensures.value (c.is_segment_of.ensures.0 (search rules)) in
    subst (λ (l : List (List ℕ)). AreDayNames (names ++ name ∷ []) day l)
    (sym (c.in_ok-push.ensures.items
    ∙ ap (λ (n : List ℕ). c.args.segments.now.items ++ n ∷ []) c.in_ok-copied.ensures))
    (day_names_more names c.args.segments.now.items name day found segment)
