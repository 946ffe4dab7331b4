-- Facts on the parts of some ranges, one after another.
use Rattle.std.proofs.Common.{◌≡◌, ℕ, zero, suc, ◌<◌, List, [], ◌∷◌, ◌++◌, refl, ap, arith, length, get_or}
use Rattle.std.specs.Prelude.{Vec}
use Rattle.std.specs.List.{AllByRecursion}
use Rattle.std.specs.declared.alloc.Global.{Global}
use Rattle.archive_text.specs.Entries.{Entry}
use Rattle.reconcile.specs.Honest.{AreParts, ArePartsOf}
use Rattle.reconcile.specs.Requests.{lists_of}
use Rattle.reconcile.specs.declared.part.Part.{Part}

pub parts_more : (xs : List Entry) (ps : List Part) (cs : List (List Part)) (p : Part) (c : List Part)
    → ArePartsOf xs ps cs → AreParts xs p.range c → ArePartsOf xs (ps ++ p ∷ []) (cs ++ c ∷ [])
parts_more xs [] [] p c h k = (k, tt)
parts_more xs [] (d ∷ cs) p c h k = absurd h
parts_more xs (q ∷ ps) [] p c h k = absurd h
parts_more xs (q ∷ ps) (d ∷ cs) p c h k = (h.0, parts_more xs ps cs p c h.1 k)

pub lists_more : (vs : List (Vec Part Global)) (v : Vec Part Global)
    → lists_of (vs ++ v ∷ []) ≡ lists_of vs ++ v.items ∷ []
lists_more [] v = refl
lists_more (u ∷ vs) v = ap (λ l. u.items ∷ l) (lists_more vs v)

pub all_index : (P : Part → Type 0) (ps : List Part) (i : ℕ) (d : Part) → AllByRecursion P ps → i < length ps
    → P (get_or ps i d)
all_index P [] i d h lt = absurd (omega arith)
all_index P (p ∷ ps) zero d h lt = h.0
all_index P (p ∷ ps) (suc i) d h lt = all_index P ps i d h.1 (omega arith)
