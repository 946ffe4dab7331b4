-- The audit path of an entry leads from it to the root.
use Rattle.std.proofs.Common.{◌≡◌, ℕ, zero, suc, ◌-◌, ◌^◌, ◌<◌, ◌≤◌, inl, inr, List, [], ◌∷◌, ◌++◌, length, take, drop}
use Rattle.std.proofs.Common.{reverse, sym, ap, subst, ◌∙◌, arith, length-append}
use Rattle.std.specs.Prelude.{Option, Some}
use Rattle.std.specs.Option.{option_map}
use Rattle.std.proofs.lemmas.List.{reverse-append, take-append-drop, length-drop, length-take-le}
use Rattle.archive_tree.specs.Tree.{leaf_hash, node_hash, hash_to, path_to}
use Rattle.archive_tree.proofs.TreeLaws.{double, hash_small, hash_split, path_small, path_left, path_right}
use Rattle.archive_proof.specs.Entries.{IsAt}
use Rattle.archive_proof.specs.Climbing.{climb}
use Rattle.archive_proof.proofs.Climbs.{climb_small, climb_left, climb_right}
use Rattle.archive_proof.proofs.Places.{at_in_left, at_in_right}
use Rattle.archive_proof.proofs.Hashes.{le_or_gt}

-- the path of the entry leads to the root
abbrev Leading : ℕ → List (List ℕ) → ℕ → List ℕ → Type 0
Leading h xs i e = climb h (length xs) i (leaf_hash e) (reverse (path_to h xs i)) ≡ Some (hash_to h xs)

complete_one : (xs : List (List ℕ)) (i : ℕ) (e : List ℕ) → length xs ≤ 1 → IsAt xs i e → Leading 0 xs i e
unfolding climb hash_to path_to
complete_one [] i e fits at = absurd at
complete_one (x ∷ y ∷ ys) i e fits at = absurd (omega arith)
complete_one (x ∷ []) (suc i) e fits at = absurd at
complete_one (x ∷ []) zero e fits at = ap (λ (l : List ℕ). Some (leaf_hash l)) (sym at)

complete_left : (h : ℕ) (l r : List (List ℕ)) (i : ℕ) (e : List ℕ) → length l ≡ 2 ^ h → 0 < length r → i < 2 ^ h
    → Leading h l i e → Leading (suc h) (l ++ r) i e
complete_left h l r i e size some here low =
    let more : 2 ^ h < length (l ++ r) = omega (arith, length-append l r) in
    let path : reverse (path_to (suc h) (l ++ r) i) ≡ hash_to h r ∷ reverse (path_to h l i) =
    ap (λ (q : List (List ℕ)). reverse q) (path_left h l r i size some (omega arith))
    ∙ reverse-append (path_to h l i) (hash_to h r ∷ []) in
    let up = climb_left h (length (l ++ r)) i (leaf_hash e) (hash_to h r) (reverse (path_to h l i)) more here in
    let down : climb h (2 ^ h) i (leaf_hash e) (reverse (path_to h l i)) ≡ Some (hash_to h l) =
    ap (λ (n : ℕ). climb h n i (leaf_hash e) (reverse (path_to h l i))) (sym size) ∙ low in
    ap (λ (q : List (List ℕ)). climb (suc h) (length (l ++ r)) i (leaf_hash e) q) path ∙ up
    ∙ ap (λ (o : Option (List ℕ)). option_map (λ a. node_hash a (hash_to h r)) o) down
    ∙ ap Some (sym (hash_split h l r size some))

complete_right : (h : ℕ) (l r : List (List ℕ)) (i : ℕ) (e : List ℕ) → length l ≡ 2 ^ h → 0 < length r → 2 ^ h ≤ i
    → Leading h r (i - 2 ^ h) e → Leading (suc h) (l ++ r) i e
complete_right h l r i e size some here low =
    let more : 2 ^ h < length (l ++ r) = omega (arith, length-append l r) in
    let rest : length (l ++ r) - 2 ^ h ≡ length r = omega (arith, length-append l r) in
    let place : i - length l ≡ i - 2 ^ h = omega arith in
    let path : reverse (path_to (suc h) (l ++ r) i) ≡ hash_to h l ∷ reverse (path_to h r (i - 2 ^ h)) =
    ap (λ (q : List (List ℕ)). reverse q) (path_right h l r i size some (omega arith))
    ∙ reverse-append (path_to h r (i - length l)) (hash_to h l ∷ [])
    ∙ ap (λ (j : ℕ). hash_to h l ∷ reverse (path_to h r j)) place in
    let up = climb_right h (length (l ++ r)) i (leaf_hash e) (hash_to h l) (reverse (path_to h r (i - 2 ^ h))) more
    here in
    let down : climb h (length (l ++ r) - 2 ^ h) (i - 2 ^ h) (leaf_hash e) (reverse (path_to h r (i - 2 ^ h)))
    ≡ Some (hash_to h r) =
    ap (λ (n : ℕ). climb h n (i - 2 ^ h) (leaf_hash e) (reverse (path_to h r (i - 2 ^ h)))) rest ∙ low in
    ap (λ (q : List (List ℕ)). climb (suc h) (length (l ++ r)) i (leaf_hash e) q) path ∙ up
    ∙ ap (λ (o : Option (List ℕ)). option_map (λ b. node_hash (hash_to h l) b) o) down
    ∙ ap Some (sym (hash_split h l r size some))

complete_small : (h : ℕ) (xs : List (List ℕ)) (i : ℕ) (e : List ℕ) → length xs ≤ 2 ^ h → Leading h xs i e
    → Leading (suc h) xs i e
complete_small h xs i e fits low =
    climb_small h (length xs) i (leaf_hash e) (reverse (path_to (suc h) xs i)) fits
    ∙ ap (λ (q : List (List ℕ)). climb h (length xs) i (leaf_hash e) (reverse q)) (path_small h xs i fits)
    ∙ low ∙ ap Some (sym (hash_small h xs fits))

abbrev LeadingAt : ℕ → Type 0
LeadingAt h = (xs : List (List ℕ)) (i : ℕ) (e : List ℕ) → length xs ≤ 2 ^ h → IsAt xs i e → Leading h xs i e

complete_parts : (h : ℕ) (l r : List (List ℕ)) (i : ℕ) (e : List ℕ) → LeadingAt h → length l ≡ 2 ^ h → 0 < length r
    → length r ≤ 2 ^ h → IsAt (l ++ r) i e → Leading (suc h) (l ++ r) i e
complete_parts h l r i e go size some fits at = elim (le_or_gt (2 ^ h) i) [
  | inl beyond ↦ complete_right h l r i e size some beyond
      (go r (i - 2 ^ h) e fits (at_in_right l r i (i - 2 ^ h) e (omega arith) at))
  | inr within ↦ complete_left h l r i e size some within (go l i e (omega arith) (at_in_left l r i e (omega arith) at))
]

complete_above : (h : ℕ) → LeadingAt h → LeadingAt (suc h)
complete_above h go xs i e fits at = elim (le_or_gt (length xs) (2 ^ h)) [
  | inl small ↦ complete_small h xs i e small (go xs i e small at)
  | inr more ↦
      let whole : take (2 ^ h) xs ++ drop (2 ^ h) xs ≡ xs = take-append-drop (2 ^ h) xs in
      let size : length (take (2 ^ h) xs) ≡ 2 ^ h = length-take-le (2 ^ h) xs (omega arith) in
      let rest : length (drop (2 ^ h) xs) ≡ length xs - 2 ^ h = length-drop (2 ^ h) xs in
      let narrow : length (drop (2 ^ h) xs) ≤ 2 ^ h = omega (arith, double h) in
      subst (λ (l : List (List ℕ)). Leading (suc h) l i e) whole
      (complete_parts h (take (2 ^ h) xs) (drop (2 ^ h) xs) i e go size (omega arith) narrow
      (subst (λ (l : List (List ℕ)). IsAt l i e) (sym whole) at))
]

pub complete : (h : ℕ) → LeadingAt h
complete zero xs i e fits at = complete_one xs i e fits at
complete (suc h) xs i e fits at = complete_above h (complete h) xs i e fits at
