use Rattle.std.proofs.Common.{◌≡◌, ◌+◌, ◌<◌, ◌∙◌, ◌++◌, ◌∷◌, [], ap, arith, length, subst, sym, take}
use Rattle.std.proofs.lemmas.List.{take_more}
use Rattle.reconcile.specs.Honest.{AreParts, ArePartsOf}
use Rattle.reconcile.specs.Ranges.{IsProper}
use Rattle.reconcile.specs.Requests.{lists_of}
use Rattle.reconcile.specs.declared.part.Part.{Part}
use Rattle.reconcile.proofs.Locals.{all_index, lists_more, parts_more}
use Rattle.reconcile.proofs.local.cuts_of.Goals as goal

pub parts-preserved : goal.parts-preserved
parts-preserved g c =
    let own = g.S.RangedSet.entries c.args.set.now in
    let parts = c.args.parts.now in
    let i = c.parts.part-index in
    let part = c.part-item.result in
    let v = c.in_ok-parts.field-0 in
    let lt : i < length parts = omega arith in
    let front : take (i + 1) parts ≡ take i parts ++ part ∷ [] = take_more parts i part lt
    ∙ ap (λ (p : Part). take i parts ++ p ∷ []) (sym c.part-item.is) in
    let lists : lists_of c.push.new.self.items ≡ lists_of c.parts.cuts.items ++ v.items ∷ [] =
    ap lists_of c.in_ok-push.ensures.items ∙ lists_more c.parts.cuts.items v in
    record {
      kept = c.in_ok-parts.ensures.kept ∙ c.parts.invariant.kept;
      cuts = λ proper.
          let here : IsProper part.range = subst (λ (p : Part). IsProper p.range) (sym c.part-item.is)
          (all_index (λ (p : Part). IsProper p.range) parts i part proper lt) in
          let made : AreParts own part.range v.items =
          subst (λ l. AreParts l part.range v.items) c.parts.invariant.kept (c.in_ok-parts.ensures.parts here) in
          subst (λ l. ArePartsOf own l (lists_of c.push.new.self.items)) (sym front)
          (subst (ArePartsOf own (take i parts ++ part ∷ [])) (sym lists)
          (parts_more own (take i parts) (lists_of c.parts.cuts.items) part v.items (c.parts.invariant.cuts proper)
          made));
    }
