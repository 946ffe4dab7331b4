-- Facts on how many requests parts may cost.
use Rattle.std.proofs.Common.{◌≡◌, ℕ, ◌+◌, ◌*◌, ◌≤◌, List, [], ◌∷◌, ◌++◌, refl, arith, length}
use Rattle.std.specs.List.{AllByRecursion, sum_by}
use Rattle.std.proofs.lemmas.List.Sums.{sum_by-append, sum_by-cons}
use Rattle.reconcile.specs.Requests.{AreCuts, IsFiner, allowance, allowed, joined}
use Rattle.reconcile.specs.declared.part.Part.{Part}

-- ---- what parts may cost

pub costs_append : (ps qs : List Part) → allowance (ps ++ qs) ≡ allowance ps + allowance qs
costs_append ps qs = sum_by-append allowed ps qs

pub costs_cons : (p : Part) (ps : List Part) → allowance (p ∷ ps) ≡ allowed p + allowance ps
costs_cons p ps = sum_by-cons allowed p ps

pub costs_last : (ps : List Part) (p : Part) → allowance (ps ++ p ∷ []) ≡ allowance ps + allowed p
costs_last ps p = let one : allowance (p ∷ []) ≡ allowed p + 0 = sum_by-cons allowed p [] in
    omega (arith, costs_append ps (p ∷ []), one)

-- at least two requests are allowed for each part
pub costs_some : (ps : List Part) → length ps + length ps ≤ allowance ps
costs_some [] = omega arith
costs_some (p ∷ ps) = let more = costs_some ps in omega (arith, more, costs_cons p ps)

-- parts that make up a part may cost less than it
finer_costs : (ps : List Part) → AllByRecursion (λ (p : Part). 1 ≤ p.sum.records) ps
    → allowance ps + length ps ≡ 3 * sum_by (λ (p : Part). p.sum.records) ps
finer_costs [] h = refl
finer_costs (p ∷ ps) h =
    let more = finer_costs ps h.1 in
    omega (arith, h.0, sum_by-cons allowed p ps, sum_by-cons (λ (q : Part). q.sum.records) p ps)

pub finer_costs_most : (n : ℕ) (ps : List Part) → IsFiner n ps → allowance ps + 2 ≤ 3 * n
finer_costs_most n ps f = let cost = finer_costs ps f.some in omega (arith, f.several, f.total)

pub cuts_cost : (ps : List Part) (cs : List (List Part)) → AreCuts ps cs
    → allowance (joined cs) + length ps ≤ allowance ps
cuts_cost [] [] h = omega arith
cuts_cost [] (c ∷ cs) h = absurd h
cuts_cost (p ∷ ps) [] h = absurd h
cuts_cost (p ∷ ps) (c ∷ cs) h =
    let more = cuts_cost ps cs h.1 in
    let here = finer_costs_most p.sum.records c h.0.finer in
    omega (arith, more, here, costs_cons p ps, costs_append c (joined cs))

pub none_left : (ps : List Part) → length ps ≡ 0 → ps ≡ []
none_left [] h = refl
none_left (p ∷ ps) h = absurd (omega arith)
