use Rattle.std.proofs.Common.{◌≡◌, ◌+◌, ◌<◌, ◌∙◌, ◌++◌, ◌∷◌, [], List, ap, arith, length, refl, subst, sym, take}
use Rattle.std.proofs.lemmas.Bool.{false≢true}
use Rattle.std.proofs.lemmas.List.{take_more}
use Rattle.archive_text.specs.Entries.{Entry, Has, IsAscending}
use Rattle.reconcile.specs.Ranges.{AreThose, Covers}
use Rattle.reconcile.proofs.Found.{taken_ascending, those_kept, those_skipped}
use Rattle.reconcile.proofs.memory.lacking_one_by_one.Goals as goal

abbrev Lacks : List Entry → (Entry → Type 0) → Entry → Type 0
Lacks others P x = P x × ¬ (Has others x)

pub places-preserved-then-not-is_lacking : goal.places-preserved-then-not-is_lacking
places-preserved-then-not-is_lacking c =
    let places = c.args.places.now in
    let i = c.places.place-index in
    let place = c.place-item.result in
    let P = Lacks c.args.others.now (Covers c.args.parts.now) in
    let lt : i < length places = omega arith in
    let front : take (i + 1) places ≡ take i places ++ place ∷ [] = take_more places i place lt
    ∙ ap (λ (y : Entry). take i places ++ y ∷ []) (sym c.place-item.is) in
    subst (λ l. AreThose P l c.places.those.items) (sym front)
    (those_skipped P (take i places) c.places.those.items place c.places.invariant
    (λ p. false≢true (c.if-not-is_lacking.ensures.1 p)))

pub places-preserved : goal.places-preserved
places-preserved c =
    let places = c.args.places.now in
    let i = c.places.place-index in
    let place = c.place-item.result in
    let P = Lacks c.args.others.now (Covers c.args.parts.now) in
    let those = c.places.those.items in
    let lt : i < length places = omega arith in
    let front : take (i + 1) places ≡ take i places ++ place ∷ [] = take_more places i place lt
    ∙ ap (λ (y : Entry). take i places ++ y ∷ []) (sym c.place-item.is) in
    let pushed : c.push.new.self.items ≡ those ++ place ∷ [] = c.in_ok-push.ensures.items
    ∙ ap (λ (y : Entry). those ++ y ∷ []) c.in_ok-copy.ensures in
    let order : IsAscending (take i places ++ place ∷ []) =
    subst IsAscending front (taken_ascending places (i + 1) c.requires.places) in
    subst (λ l. AreThose P l c.push.new.self.items) (sym front)
    (subst (AreThose P (take i places ++ place ∷ [])) (sym pushed)
    (those_kept P (take i places) those place order c.places.invariant (c.if-not-is_lacking.ensures.0 refl)))
