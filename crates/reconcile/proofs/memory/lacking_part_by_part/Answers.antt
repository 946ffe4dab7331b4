use Rattle.std.proofs.Common.{◌≡◌, ◌+◌, ◌<◌, ◌∙◌, ◌++◌, ◌∷◌, [], ap, arith, length, subst, sym, take}
use Rattle.std.proofs.lemmas.List.{take_more}
use Rattle.archive_text.specs.Entries.{Has}
use Rattle.reconcile.specs.Ascending.{DoAscend}
use Rattle.reconcile.specs.Ranges.{AreThose, Covers}
use Rattle.reconcile.specs.declared.part.Part.{Part}
use Rattle.reconcile.proofs.AscendingParts.{taken_ascend, those_of_more}
use Rattle.reconcile.proofs.memory.lacking_part_by_part.Goals as goal

pub parts-preserved : goal.parts-preserved
parts-preserved c =
    let parts = c.args.parts.now in
    let i = c.parts.part-index in
    let part = c.part-item.result in
    let others = c.args.others.now in
    let places = c.args.places.now in
    let those = c.parts.those.items in
    let more = c.in_ok-more.more.items in
    let inside = c.entries_in.result.now in
    let lt : i < length parts = omega arith in
    let front : take (i + 1) parts ≡ take i parts ++ part ∷ [] = take_more parts i part lt
    ∙ ap (λ (p : Part). take i parts ++ p ∷ []) (sym c.part-item.is) in
    let asc : DoAscend (take i parts ++ part ∷ []) = subst DoAscend front
    (taken_ascend parts (i + 1) c.requires.parts) in
    let whole = those_of_more (take i parts) part others places those inside more asc c.parts.invariant
    c.entries_in.ensures c.in_ok-more.ensures in
    subst (λ l. AreThose (λ x. Covers l x × ¬ (Has others x)) places c.append.new.self.items) (sym front)
    (subst (AreThose (λ x. Covers (take i parts ++ part ∷ []) x × ¬ (Has others x)) places)
    (sym c.in_ok-append.ensures.items) whole)
