use Rattle.std.proofs.Common.{◌≡◌, ◌≤◌, ◌∙◌, ap, drop, length, refl, subst, sym, take}
use Rattle.std.specs.List.{AllByRecursion, insert}
use Rattle.std.proofs.lemmas.Bool.{false≢true}
use Rattle.archive_text.specs.Entries.{Entry, Has, IsAscending, IsBelow}
use Rattle.reconcile.proofs.Found.{dropped, dropped_ascending, joined_held, joined_inserted}
use Rattle.reconcile.proofs.searching.insert_place.Goals as goal

pub returns-then-begins_with : goal.returns-then-begins_with
returns-then-begins_with c =
    let places = c.args.places.now.items in
    let place = c.args.place.now in
    let i = c.count_below-at.result in
    let back : c.split_at.result.1.now ≡ drop i places = c.split_at.ensures.back
    ∙ ap (drop i) c.as_slice-2.ensures.value in
    joined_held places place c.requires.archive
    (dropped places place i (subst (λ l. Has l place) back (c.if-begins_with.ensures.held refl)))

pub returns : goal.returns
returns c =
    let places = c.args.places.now.items in
    let place = c.args.place.now in
    let i = c.count_below-at.result in
    let same = c.as_slice.ensures.value in
    let back : c.split_at.result.1.now ≡ drop i places = c.split_at.ensures.back
    ∙ ap (drop i) c.as_slice-2.ensures.value in
    let above : AllByRecursion (λ y. ¬ (IsBelow y place)) (drop i places) =
    subst (λ l. AllByRecursion (λ y. ¬ (IsBelow y place)) (drop i l)) same c.count_below-at.ensures.above in
    let below : AllByRecursion (λ y. IsBelow y place) (take i places) =
    subst (λ l. AllByRecursion (λ y. IsBelow y place) (take i l)) same c.count_below-at.ensures.below in
    let order : IsAscending (drop i places) = dropped_ascending places i c.requires.archive.ascending in
    joined_inserted places c.insert.new.self.items place i c.requires.archive c.requires.entry c.requires.fits
    (subst (λ l. i ≤ length l) same c.count_below-at.ensures.within) below above
    (λ m. false≢true (c.if-begins_with.ensures.none (subst IsAscending (sym back) order)
    (subst (AllByRecursion (λ y. ¬ (IsBelow y place))) (sym back) above) (subst (λ l. Has l place) (sym back) m)))
    (c.in_ok-insert.ensures.items ∙ ap (λ (y : Entry). insert places i y) c.in_ok-copy.ensures)
