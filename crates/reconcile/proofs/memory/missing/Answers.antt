use Rattle.std.proofs.Common.{◌≡◌, ◌+◌, ◌<◌, ◌∙◌, ◌++◌, ◌∷◌, [], ap, arith, length, refl, subst, sym, take}
use Rattle.std.proofs.lemmas.Bool.{false≢true}
use Rattle.std.proofs.lemmas.List.{take_more}
use Rattle.archive_text.specs.Entries.{Entry, Has, IsAscending}
use Rattle.reconcile.specs.Ranges.{AreThose}
use Rattle.reconcile.proofs.Found.{taken_ascending, those_kept, those_skipped}
use Rattle.reconcile.proofs.memory.missing.Goals as goal

pub entries-preserved-then-has_place : goal.entries-preserved-then-has_place
entries-preserved-then-has_place c =
    let entries = c.args.entries.now in
    let i = c.entries.entry-index in
    let entry = c.entry-item.result in
    let lt : i < length entries = omega arith in
    let front : take (i + 1) entries ≡ take i entries ++ entry ∷ [] = take_more entries i entry lt
    ∙ ap (λ (y : Entry). take i entries ++ y ∷ []) (sym c.entry-item.is) in
    subst (λ l. AreThose (λ x. ¬ (Has c.args.others.now x)) l c.entries.those.items) (sym front)
    (those_skipped (λ x. ¬ (Has c.args.others.now x)) (take i entries) c.entries.those.items entry
    c.entries.invariant (λ none. none (c.if-has_place.ensures.0 refl)))

pub entries-preserved : goal.entries-preserved
entries-preserved c =
    let entries = c.args.entries.now in
    let i = c.entries.entry-index in
    let entry = c.entry-item.result in
    let those = c.entries.those.items in
    let lt : i < length entries = omega arith in
    let front : take (i + 1) entries ≡ take i entries ++ entry ∷ [] = take_more entries i entry lt
    ∙ ap (λ (y : Entry). take i entries ++ y ∷ []) (sym c.entry-item.is) in
    let pushed : c.push.new.self.items ≡ those ++ entry ∷ [] = c.in_ok-push.ensures.items
    ∙ ap (λ (y : Entry). those ++ y ∷ []) c.in_ok-copy.ensures in
    let order : IsAscending (take i entries ++ entry ∷ []) =
    subst IsAscending front (taken_ascending entries (i + 1) c.requires.entries) in
    subst (λ l. AreThose (λ x. ¬ (Has c.args.others.now x)) l c.push.new.self.items) (sym front)
    (subst (AreThose (λ x. ¬ (Has c.args.others.now x)) (take i entries ++ entry ∷ [])) (sym pushed)
    (those_kept (λ x. ¬ (Has c.args.others.now x)) (take i entries) those entry order c.entries.invariant
    (λ held. false≢true (c.if-has_place.ensures.1 held))))
