-- The laws of climbing.
use Rattle.std.proofs.Common.{◌≡◌, ℕ, suc, ◌-◌, ◌^◌, ◌<◌, ◌≤◌, List, [], ◌∷◌, ◌++◌, reverse, refl, sym, ap, ◌∙◌, arith}
use Rattle.std.specs.Prelude.{Option, None, Some}
use Rattle.std.specs.Option.{option_map}
use Rattle.std.proofs.lemmas.List.{reverse-append}
use Rattle.archive_tree.specs.Tree.{node_hash}
use Rattle.archive_tree.proofs.TreeLaws.{test_le, test_gt, test_lt, test_ge}
use Rattle.archive_proof.specs.Climbing.{climb}

pub climb_none : (h n i : ℕ) (leaf : List ℕ) → 2 ^ h < n → climb (suc h) n i leaf [] ≡ None
unfolding climb
climb_none h n i leaf more = rw (test_gt n (2 ^ h) more) refl

pub climb_small : (h n i : ℕ) (leaf : List ℕ) (ps : List (List ℕ)) → n ≤ 2 ^ h
    → climb (suc h) n i leaf ps ≡ climb h n i leaf ps
unfolding climb
climb_small h n i leaf [] fits = rw (test_le n (2 ^ h) fits) refl
climb_small h n i leaf (p ∷ ps) fits = rw (test_le n (2 ^ h) fits) refl

pub climb_left : (h n i : ℕ) (leaf p : List ℕ) (ps : List (List ℕ)) → 2 ^ h < n → i < 2 ^ h
    → climb (suc h) n i leaf (p ∷ ps) ≡ option_map (λ a. node_hash a p) (climb h (2 ^ h) i leaf ps)
unfolding climb
climb_left h n i leaf p ps more here = rw (test_gt n (2 ^ h) more, test_lt i (2 ^ h) here) refl

pub climb_right : (h n i : ℕ) (leaf p : List ℕ) (ps : List (List ℕ)) → 2 ^ h < n → 2 ^ h ≤ i
    → climb (suc h) n i leaf (p ∷ ps) ≡ option_map (λ b. node_hash p b) (climb h (n - 2 ^ h) (i - 2 ^ h) leaf ps)
unfolding climb
climb_right h n i leaf p ps more here = rw (test_gt n (2 ^ h) more, test_ge i (2 ^ h) here) refl

-- ---- as the code climbs, which has the path the other way round

reversed : (path rest : List (List ℕ)) (p : List ℕ) → path ≡ rest ++ p ∷ [] → reverse path ≡ p ∷ reverse rest
reversed path rest p e = ap (λ (l : List (List ℕ)). reverse l) e ∙ reverse-append rest (p ∷ [])

pub climb_end : (k n i : ℕ) (leaf : List ℕ) (path : List (List ℕ)) → k ≡ 0 → path ≡ []
    → Some leaf ≡ climb k n i leaf (reverse path)
unfolding climb
climb_end k n i leaf path low none = rw (low, none) refl

pub climb_too_long : (k n i : ℕ) (leaf p : List ℕ) (path rest : List (List ℕ)) → k ≡ 0 → path ≡ rest ++ p ∷ []
    → None ≡ climb k n i leaf (reverse path)
unfolding climb
climb_too_long k n i leaf p path rest low e = rw (low, reversed path rest p e) refl

pub climb_too_short : (k h n i half : ℕ) (leaf : List ℕ) (path : List (List ℕ)) → k ≡ suc h → half ≡ 2 ^ h → half < n
    → path ≡ [] → None ≡ climb k n i leaf (reverse path)
climb_too_short k h n i half leaf path level is more none =
    let wide : 2 ^ h < n = omega arith in rw (level, none) (sym (climb_none h n i leaf wide))

pub climb_lower : (k h n i half : ℕ) (leaf : List ℕ) (path : List (List ℕ)) → k ≡ suc h → half ≡ 2 ^ h → n ≤ half
    → climb h n i leaf (reverse path) ≡ climb k n i leaf (reverse path)
climb_lower k h n i half leaf path level is fits =
    let narrow : n ≤ 2 ^ h = omega arith in rw level (sym (climb_small h n i leaf (reverse path) narrow))

pub climb_to_left : (k h n i half : ℕ) (leaf p : List ℕ) (path rest : List (List ℕ)) (o : Option (List ℕ))
    → k ≡ suc h → half ≡ 2 ^ h → half < n → i < half → path ≡ rest ++ p ∷ []
    → o ≡ climb h half i leaf (reverse rest) → option_map (λ a. node_hash a p) o ≡ climb k n i leaf (reverse path)
climb_to_left k h n i half leaf p path rest o level is more here e below =
    let wide : 2 ^ h < n = omega arith in
    let inside : i < 2 ^ h = omega arith in
    let law = climb_left h n i leaf p (reverse rest) wide inside in
    let low : o ≡ climb h (2 ^ h) i leaf (reverse rest) = below ∙ ap (λ (m : ℕ). climb h m i leaf (reverse rest)) is in
    ap (λ (r : Option (List ℕ)). option_map (λ a. node_hash a p) r) low ∙ rw (level, reversed path rest p e) (sym law)

pub climb_to_right : (k h n i half : ℕ) (leaf p : List ℕ) (path rest : List (List ℕ)) (o : Option (List ℕ))
    → k ≡ suc h → half ≡ 2 ^ h → half < n → half ≤ i → path ≡ rest ++ p ∷ []
    → o ≡ climb h (n - half) (i - half) leaf (reverse rest)
    → option_map (λ b. node_hash p b) o ≡ climb k n i leaf (reverse path)
climb_to_right k h n i half leaf p path rest o level is more here e below =
    let wide : 2 ^ h < n = omega arith in
    let inside : 2 ^ h ≤ i = omega arith in
    let law = climb_right h n i leaf p (reverse rest) wide inside in
    let low : o ≡ climb h (n - 2 ^ h) (i - 2 ^ h) leaf (reverse rest) =
    below ∙ ap (λ (m : ℕ). climb h (n - m) (i - m) leaf (reverse rest)) is in
    ap (λ (r : Option (List ℕ)). option_map (λ b. node_hash p b) r) low ∙ rw (level, reversed path rest p e) (sym law)
