use Rattle.std.proofs.Common.{◌≡◌, ◌∙◌, ◌-◌, ◌≤◌, ◌∷◌, ap, arith, drop, eq-eqb, length, refl, rules, subst, sym, take}
use Rattle.std.specs.Prelude.{All}
use Rattle.std.specs.List.{AllByRecursion}
use Rattle.std.proofs.lemmas.Bool.{eqb-true, false≢true}
use Rattle.std.proofs.lemmas.List.Elements.{All-from_recursion, recursion_from_All}
use Rattle.archive_text.specs.Entries.{IsAscending, IsBelow}
use Rattle.reconcile.specs.Ranges.{Covers, IsUnder}
use Rattle.reconcile.specs.Ascending.{DoAscend}
use Rattle.reconcile.specs.declared.part.Part.{Part}
use Rattle.reconcile.proofs.AscendingParts.{all_covered, back_covered, first_rest, front_inside, none_covered}
use Rattle.reconcile.proofs.Found.{dropped_ascending, taken_ascending}
use Rattle.reconcile.proofs.ascending.+are_inside.Goals as goal

pub are_from-requires : goal.are_from-requires
are_from-requires t c =
    subst IsAscending (sym c.split_at.ensures.front)
    (taken_ascending c.args.places.now c.count_under.result c.requires.places)

pub are_inside-requires : goal.are_inside-requires
are_inside-requires t c =
    let parts = c.args.parts.now in
    let part = c.part-item.result in
    let rest = take (length parts - 1) (drop 1 parts) in
    let some : 1 ≤ length parts = omega arith in
    let is : parts ≡ part ∷ rest = first_rest parts part some ∙ ap (λ (p : Part). p ∷ rest) (sym c.part-item.is) in
    let asc : DoAscend (part ∷ rest) = subst DoAscend is c.requires.parts in (
      search rules,
      (
        subst IsAscending (sym c.split_at.ensures.back)
            (dropped_ascending c.args.places.now c.count_under.result c.requires.places),
        asc.2,
      ),
    )

pub returns-in-empty : goal.returns-in-empty
returns-in-empty t c =
    let parts = c.args.parts.now in
    let places = c.args.places.now in (
      λ yes k d lt.
          let none = eqb-true (length places) 0 (sym c.is_empty.ensures ∙ yes) in
          absurd (omega (arith, lt, none)),
      λ all.
          c.is_empty.ensures ∙ eq-eqb (length places) 0
          (none_covered parts places c.in-empty.len_below (recursion_from_All (Covers parts) places all)),
    )

pub returns-then-are_from : goal.returns-then-are_from
returns-then-are_from t c =
    let parts = c.args.parts.now in
    let places = c.args.places.now in
    let part = c.part-item.result in
    let rest = take (length parts - 1) (drop 1 parts) in
    let n = c.count_under.result in
    let some : 1 ≤ length parts = omega arith in
    let is : parts ≡ part ∷ rest = first_rest parts part some ∙ ap (λ (p : Part). p ∷ rest) (sym c.part-item.is) in
    let under : AllByRecursion (IsUnder part.range.high) (take n places) =
    subst (λ h. AllByRecursion (IsUnder h) (take n places)) c.as_ref.ensures.value c.count_under.ensures.under in
    let over : AllByRecursion (λ x. ¬ (IsUnder part.range.high x)) (drop n places) =
    subst (λ h. AllByRecursion (λ x. ¬ (IsUnder h x)) (drop n places)) c.as_ref.ensures.value
    c.count_under.ensures.over in
    let above : AllByRecursion (λ x. ¬ (IsBelow x part.range.low)) (take n places) =
    subst (λ l. AllByRecursion (λ x. ¬ (IsBelow x part.range.low)) l) c.split_at.ensures.front
    (c.if-are_from.ensures.0 refl) in
    let back = c.split_at.ensures.back in (
      λ yes.
          let more : AllByRecursion (Covers rest) (drop n places) =
          subst (λ l. AllByRecursion (Covers rest) l) back
          (recursion_from_All (Covers rest) c.split_at.result.1.now (c.are_inside.ensures.0 yes)) in
          subst (λ l. All (λ x. Covers l x) places) (sym is)
          (All-from_recursion (Covers (part ∷ rest)) places (all_covered part rest places n under above more)),
      λ all.
          let each : AllByRecursion (Covers (part ∷ rest)) places = recursion_from_All (Covers (part ∷ rest)) places
          (subst (λ l. All (λ x. Covers l x) places) is all) in
          c.are_inside.ensures.1 (subst (λ l. All (λ x. Covers rest x) l) (sym back)
          (All-from_recursion (Covers rest) (drop n places) (back_covered part rest places n over each))),
    )

pub returns-else-are_from : goal.returns-else-are_from
returns-else-are_from t c =
    let parts = c.args.parts.now in
    let places = c.args.places.now in
    let part = c.part-item.result in
    let rest = take (length parts - 1) (drop 1 parts) in
    let n = c.count_under.result in
    let some : 1 ≤ length parts = omega arith in
    let is : parts ≡ part ∷ rest = first_rest parts part some ∙ ap (λ (p : Part). p ∷ rest) (sym c.part-item.is) in
    let under : AllByRecursion (IsUnder part.range.high) (take n places) =
    subst (λ h. AllByRecursion (IsUnder h) (take n places)) c.as_ref.ensures.value c.count_under.ensures.under in
    let asc : DoAscend (part ∷ rest) = subst DoAscend is c.requires.parts in (
      λ yes. absurd (false≢true (sym c.if-are_from.false ∙ yes)),
      λ all.
          let each : AllByRecursion (Covers (part ∷ rest)) places = recursion_from_All (Covers (part ∷ rest)) places
          (subst (λ l. All (λ x. Covers l x) places) is all) in
          c.are_from.ensures.1 (subst (λ l. AllByRecursion (λ x. ¬ (IsBelow x part.range.low)) l)
          (sym c.split_at.ensures.front) (front_inside part rest places n asc under each)),
    )
