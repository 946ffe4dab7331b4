use Rattle.std.proofs.Common.{◌≡◌, ◌≤◌, ◌<◌, ◌+◌, ◌-◌, ◌/◌, ◌∙◌, ◌++◌, ◌∷◌, [], ap, arith, length, subst, sym}
use Rattle.std.proofs.Common.{Some, take, drop}
use Rattle.std.specs.List.{AllByRecursion}
use Rattle.std.proofs.lemmas.List.{drop_more, length-append, length-drop, length-take-le, take-append-drop, take_rest}
use Rattle.std.proofs.lemmas.List.Sums.{sum_by-append, sum_by-cons}
use Rattle.archive_text.specs.Entries.{Entry}
use Rattle.archive_text.proofs.Members.{all_append}
use Rattle.reconcile.specs.Ranges.{AreThose, Chain, IsInside, IsTold, IsUnder}
use Rattle.reconcile.specs.declared.part.Part.{Part}
use Rattle.reconcile.proofs.Cuts.{between, chain_more, cut_back, cut_front, cut_proper_some, cut_under, parts_end}
use Rattle.reconcile.proofs.Cuts.{size_less, told_more}
use Rattle.reconcile.proofs.cutting.parts_of.Goals as goal

pub cutting-preserved : goal.cutting-preserved
cutting-preserved c =
    let r = c.args.range.now in
    let inv = c.cutting.invariant in
    let rest = c.cutting.rest.now in
    let ps = c.cutting.parts.items in
    let low = c.cutting.low in
    let size = c.saturating_sub.result / c.max.result + 1 in
    let n = c.index-rest-size.result in
    let p = c.in_ok-part_of.field-0 in
    let fs = take size rest in
    let gs = drop (size + 1) rest in
    let lt : size < length rest = omega arith in
    let behind : drop size rest ≡ n ∷ gs = drop_more rest size n lt ∙ ap (λ (y : Entry). y ∷ gs)
    (sym c.index-rest-size.is) in
    let whole : rest ≡ fs ++ n ∷ gs = sym (take-append-drop size rest) ∙ ap (λ l. fs ++ l) behind in
    let left = take (length rest - size) (drop size rest) in
    let same : left ≡ drop size rest = take_rest rest size in
    let items : c.push.new.self.items ≡ ps ++ p ∷ [] = c.in_ok-push.ensures.items in
    let range : p.range ≡ between low (Some n) = c.in_ok-part_of.ensures.range
    ∙ ap (λ (y : Entry). between low (Some y)) c.in_ok-high.ensures in
    let is = c.in_ok-part_of.ensures.sum in
    let taken : length fs ≡ size = length-take-le size rest (omega arith) in
    let gone = length-drop size rest in
    let total = sum_by-append (λ (q : Part). q.sum.records) ps (p ∷ []) in
    let one = sum_by-cons (λ (q : Part). q.sum.records) p [] in
    let longer = length-append ps (p ∷ []) in
    let next = c.in_ok-low-2.ensures in
    record {
      those = λ xs proper first.
          let t = inv.those xs proper first in
          let here = subst (AreThose (IsInside (between low r.high)) xs) whole t.0 in
          let front = cut_front low n r.high xs fs gs here in
          let above = cut_proper_some low n r.high xs fs gs (omega (arith, taken)) here in (
            subst (λ (y : Entry). AreThose (IsInside (between y r.high)) xs left) (sym next)
                (subst (AreThose (IsInside (between n r.high)) xs) (sym (same ∙ behind))
                (cut_back low n r.high xs fs gs here)),
            subst (IsUnder r.high) (sym next) (cut_under low n r.high xs fs gs here),
            subst (λ (y : Entry). Chain (Some r.low) (Some y) c.push.new.self.items) (sym next)
                (subst (Chain (Some r.low) (Some n)) (sym items)
                (chain_more (Some r.low) ps p (between low (Some n)) t.2 range above)),
            subst (AllByRecursion (IsTold xs)) (sym items)
                (all_append (IsTold xs) ps (p ∷ []) t.3 (told_more xs fs p (between low (Some n)) range is front, tt)),
          );
      some = subst (AllByRecursion (λ (q : Part). 1 ≤ q.sum.records)) (sym items)
          (all_append (λ (q : Part). 1 ≤ q.sum.records) ps (p ∷ []) inv.some (omega (arith, is.records, taken), tt));
      total = rw (items, same) (omega (arith, total, one, is.records, taken, gone, inv.total));
      left = λ h. rw same (omega (arith, gone));
      several = λ h. rw items (omega (arith, longer));
      one = λ h. absurd (omega (arith, inv.total));
    }

pub returns : goal.returns
returns c xs proper first =
    let r = c.args.range.now in
    let entries = c.args.entries.now in
    let inv = c.cutting.invariant in
    let rest = c.cutting.rest.now in
    let low = c.cutting.low in
    let p = c.in_ok-part_of-2.field-0 in
    let t = inv.those xs proper first in
    let range : p.range ≡ between low r.high = c.in_ok-part_of-2.ensures.range
    ∙ ap (λ h. between low h) c.in_ok-high-2.ensures in
    let most : 2 ≤ c.max.result = omega (arith, c.max.ensures) in
    let same : c.saturating_sub.result / c.max.result ≡ (length entries - 1) / c.max.result =
    ap (λ k. k / c.max.result) c.saturating_sub.ensures in
    parts_end xs entries rest r low c.cutting.parts.items c.push-2.new.self.items p first t.2 t.3 inv.some inv.total
    inv.several inv.one
    (λ two.
    let less : (length entries - 1) / c.max.result + 1 < length entries =
    size_less (length entries) c.max.result two most in
    (inv.left (omega arith), omega (arith, less, same)))
    t.1 t.0 range c.in_ok-part_of-2.ensures.sum c.in_ok-push-2.ensures.items
