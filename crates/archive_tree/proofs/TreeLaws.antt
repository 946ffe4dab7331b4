-- The laws of the tree hash and of audit paths.
use Rattle.std.proofs.Common.{◌≡◌, ℕ, zero, suc, ◌+◌, ◌-◌, ◌^◌, ◌<◌, ◌≤◌, ◌⊎◌, inl, inr, List, [], ◌∷◌, ◌++◌, length}
use Rattle.std.proofs.Common.{take, drop, Bool, true, false, refl, sym, ap, subst, ◌∙◌, arith, length-append}
use Rattle.std.specs.Prelude.{nat_le, nat_lt, if◌then◌else◌}
use Rattle.std.proofs.Math.Pow.{pow_mono}
use Rattle.std.proofs.Math.Nat.{two-pow-succ}
use Rattle.std.proofs.lemmas.Nat.{pow_pos}
use Rattle.std.proofs.lemmas.List.{take_at, drop_at}
use Rattle.std.proofs.lemmas.Bool.{le-leb, lt-ltb}
use Rattle.std.proofs.lemmas.Bool.Decides.{nat_tests}
use Rattle.sha2.specs.Sha256.{sha256}
use Rattle.archive_tree.specs.Tree.{leaf_hash, node_hash, hash_to, tree_hash, path_to, audit_path}

-- ---- tests

pub le_cases : (h m : ℕ) → h ≤ suc m → (h ≤ m) ⊎ (h ≡ suc m)
le_cases h m below = grind arith

pub le_total : (m n : ℕ) → (m ≤ n) ⊎ (n ≤ m)
le_total m n = grind arith

pub test_le : (m n : ℕ) → m ≤ n → nat_le m n ≡ true
test_le m n h = le-leb m n h

pub test_gt : (m n : ℕ) → n < m → nat_le m n ≡ false
test_gt m n h = grind (arith, nat_tests)

pub test_lt : (m n : ℕ) → m < n → nat_lt m n ≡ true
test_lt m n h = lt-ltb m n h

pub test_ge : (m n : ℕ) → n ≤ m → nat_lt m n ≡ false
test_ge m n h = grind (arith, nat_tests)

pub double : (h : ℕ) → 2 ^ suc h ≡ 2 ^ h + 2 ^ h
double h = two-pow-succ h

pub below_power : (n : ℕ) → n ≤ 2 ^ n
below_power zero = omega arith
below_power (suc n) = omega (arith, below_power n, double n, pow_pos n)

-- ---- one level

pub hash_small : (h : ℕ) (xs : List (List ℕ)) → length xs ≤ 2 ^ h → hash_to (suc h) xs ≡ hash_to h xs
unfolding hash_to
hash_small h xs fits = rw (test_le (length xs) (2 ^ h) fits) refl

pub hash_split : (h : ℕ) (xs ys : List (List ℕ)) → length xs ≡ 2 ^ h → 0 < length ys
    → hash_to (suc h) (xs ++ ys) ≡ node_hash (hash_to h xs) (hash_to h ys)
unfolding hash_to
hash_split h xs ys size some =
    let more : 2 ^ h < length (xs ++ ys) = omega (arith, length-append xs ys) in
    rw (test_gt (length (xs ++ ys)) (2 ^ h) more, take_at xs ys (2 ^ h) size, drop_at xs ys (2 ^ h) size) refl

pub path_small : (h : ℕ) (xs : List (List ℕ)) (i : ℕ) → length xs ≤ 2 ^ h → path_to (suc h) xs i ≡ path_to h xs i
unfolding path_to
path_small h xs i fits = rw (test_le (length xs) (2 ^ h) fits) refl

pub path_left : (h : ℕ) (xs ys : List (List ℕ)) (i : ℕ) → length xs ≡ 2 ^ h → 0 < length ys → i < length xs
    → path_to (suc h) (xs ++ ys) i ≡ path_to h xs i ++ hash_to h ys ∷ []
unfolding path_to
path_left h xs ys i size some left =
    let more : 2 ^ h < length (xs ++ ys) = omega (arith, length-append xs ys) in
    let here : i < 2 ^ h = omega arith in
    rw (
      test_gt (length (xs ++ ys)) (2 ^ h) more,
      test_lt i (2 ^ h) here,
      take_at xs ys (2 ^ h) size,
      drop_at xs ys (2 ^ h) size,
    ) refl

pub path_right : (h : ℕ) (xs ys : List (List ℕ)) (i : ℕ) → length xs ≡ 2 ^ h → 0 < length ys → length xs ≤ i
    → path_to (suc h) (xs ++ ys) i ≡ path_to h ys (i - length xs) ++ hash_to h xs ∷ []
unfolding path_to
path_right h xs ys i size some right =
    let more : 2 ^ h < length (xs ++ ys) = omega (arith, length-append xs ys) in
    let here : 2 ^ h ≤ i = omega arith in
    rw (
      test_gt (length (xs ++ ys)) (2 ^ h) more,
      test_ge i (2 ^ h) here,
      take_at xs ys (2 ^ h) size,
      drop_at xs ys (2 ^ h) size,
      size,
    ) refl

-- ---- any level

hash_step : (h m : ℕ) (xs : List (List ℕ)) → h ≤ suc m → length xs ≤ 2 ^ h
    → (h ≤ m → hash_to m xs ≡ hash_to h xs) → hash_to (suc m) xs ≡ hash_to h xs
hash_step h m xs below fits go = elim (le_cases h m below) [
  | inl less ↦ let wide : 2 ^ h ≤ 2 ^ m = pow_mono less in hash_small m xs (omega arith) ∙ go less
  | inr same ↦ ap (λ (k : ℕ). hash_to k xs) (sym same)
]

pub hash_from : (h m : ℕ) (xs : List (List ℕ)) → h ≤ m → length xs ≤ 2 ^ h → hash_to m xs ≡ hash_to h xs
hash_from h zero xs below fits = let e : zero ≡ h = omega arith in ap (λ (k : ℕ). hash_to k xs) e
hash_from h (suc m) xs below fits = hash_step h m xs below fits (λ less. hash_from h m xs less fits)

path_step : (h m : ℕ) (xs : List (List ℕ)) (i : ℕ) → h ≤ suc m → length xs ≤ 2 ^ h
    → (h ≤ m → path_to m xs i ≡ path_to h xs i) → path_to (suc m) xs i ≡ path_to h xs i
path_step h m xs i below fits go = elim (le_cases h m below) [
  | inl less ↦ let wide : 2 ^ h ≤ 2 ^ m = pow_mono less in path_small m xs i (omega arith) ∙ go less
  | inr same ↦ ap (λ (k : ℕ). path_to k xs i) (sym same)
]

pub path_from : (h m : ℕ) (xs : List (List ℕ)) (i : ℕ) → h ≤ m → length xs ≤ 2 ^ h → path_to m xs i ≡ path_to h xs i
path_from h zero xs i below fits = let e : zero ≡ h = omega arith in ap (λ (k : ℕ). path_to k xs i) e
path_from h (suc m) xs i below fits = path_step h m xs i below fits (λ less. path_from h m xs i less fits)

-- the tree hash at any level that has room
pub hash_at : (h : ℕ) (xs : List (List ℕ)) → length xs ≤ 2 ^ h → tree_hash xs ≡ hash_to h xs
hash_at h xs fits = elim (le_total h (length xs)) [
  | inl less ↦ hash_from h (length xs) xs less fits
  | inr more ↦ sym (hash_from (length xs) h xs more (below_power (length xs)))
]

pub path_at : (h : ℕ) (xs : List (List ℕ)) (i : ℕ) → length xs ≤ 2 ^ h → audit_path xs i ≡ path_to h xs i
path_at h xs i fits = elim (le_total h (length xs)) [
  | inl less ↦ path_from h (length xs) xs i less fits
  | inr more ↦ sym (path_from (length xs) h xs i more (below_power (length xs)))
]

-- ---- the laws of the standard

pub hash_none : tree_hash [] ≡ sha256 []
unfolding hash_to
hash_none = refl

pub hash_one : (x : List ℕ) → tree_hash (x ∷ []) ≡ leaf_hash x
unfolding hash_to
hash_one x = hash_at 0 (x ∷ []) (omega arith)

pub path_one : (x : List ℕ) (i : ℕ) → audit_path (x ∷ []) i ≡ []
unfolding path_to
path_one x i = path_at 0 (x ∷ []) i (omega arith)

pub hash_node : (h : ℕ) (xs ys : List (List ℕ)) → length xs ≡ 2 ^ h → 0 < length ys → length ys ≤ 2 ^ h
    → tree_hash (xs ++ ys) ≡ node_hash (tree_hash xs) (tree_hash ys)
hash_node h xs ys size some fits =
    let room : length (xs ++ ys) ≤ 2 ^ suc h = omega (arith, length-append xs ys, double h) in
    let left : tree_hash xs ≡ hash_to h xs = hash_at h xs (omega arith) in
    let right : tree_hash ys ≡ hash_to h ys = hash_at h ys fits in
    hash_at (suc h) (xs ++ ys) room ∙ hash_split h xs ys size some ∙ rw (left, right) refl

pub path_in_left : (h : ℕ) (xs ys : List (List ℕ)) (i : ℕ) → length xs ≡ 2 ^ h → 0 < length ys → length ys ≤ 2 ^ h
    → i < length xs → audit_path (xs ++ ys) i ≡ audit_path xs i ++ tree_hash ys ∷ []
path_in_left h xs ys i size some fits here =
    let room : length (xs ++ ys) ≤ 2 ^ suc h = omega (arith, length-append xs ys, double h) in
    let left : audit_path xs i ≡ path_to h xs i = path_at h xs i (omega arith) in
    let right : tree_hash ys ≡ hash_to h ys = hash_at h ys fits in
    path_at (suc h) (xs ++ ys) i room ∙ path_left h xs ys i size some here ∙ rw (left, right) refl

pub path_in_right : (h : ℕ) (xs ys : List (List ℕ)) (i : ℕ) → length xs ≡ 2 ^ h → 0 < length ys → length ys ≤ 2 ^ h
    → length xs ≤ i → audit_path (xs ++ ys) i ≡ audit_path ys (i - length xs) ++ tree_hash xs ∷ []
path_in_right h xs ys i size some fits here =
    let room : length (xs ++ ys) ≤ 2 ^ suc h = omega (arith, length-append xs ys, double h) in
    let left : tree_hash xs ≡ hash_to h xs = hash_at h xs (omega arith) in
    let right : audit_path ys (i - length xs) ≡ path_to h ys (i - length xs) = path_at h ys (i - length xs) fits in
    path_at (suc h) (xs ++ ys) i room ∙ path_right h xs ys i size some here ∙ rw (left, right) refl

-- ---- how long a path is

either_short : (b : Bool) (h : ℕ) (p q : List (List ℕ)) → length p ≤ h → length q ≤ h → length (if b then p else q) ≤ h
either_short true h p q short also = short
either_short false h p q short also = also

one_longer : (h : ℕ) (p : List (List ℕ)) (x : List ℕ) → length p ≤ h → length (p ++ x ∷ []) ≤ suc h
one_longer h p x short = omega (arith, length-append p (x ∷ []))

path_to_is_short : (h : ℕ) (xs : List (List ℕ)) (i : ℕ) → length (path_to h xs i) ≤ h
unfolding path_to
path_to_is_short zero xs i = omega arith
path_to_is_short (suc h) xs i =
    let same : length (path_to h xs i) ≤ suc h = omega (arith, path_to_is_short h xs i) in
    either_short (nat_le (length xs) (2 ^ h)) (suc h) (path_to h xs i) _ same
    (either_short (nat_lt i (2 ^ h)) (suc h) (path_to h (take (2 ^ h) xs) i ++ hash_to h (drop (2 ^ h) xs) ∷ [])
    (path_to h (drop (2 ^ h) xs) (i - 2 ^ h) ++ hash_to h (take (2 ^ h) xs) ∷ [])
    (one_longer h (path_to h (take (2 ^ h) xs) i) (hash_to h (drop (2 ^ h) xs)) (path_to_is_short h (take (2 ^ h) xs)
    i))
    (one_longer h (path_to h (drop (2 ^ h) xs) (i - 2 ^ h)) (hash_to h (take (2 ^ h) xs))
    (path_to_is_short h (drop (2 ^ h) xs) (i - 2 ^ h))))

pub path_is_short : (h i : ℕ) (xs : List (List ℕ)) → length xs ≤ 2 ^ h → length (audit_path xs i) ≤ h
path_is_short h i xs fits =
    subst (λ (p : List (List ℕ)). length p ≤ h) (sym (path_at h xs i fits)) (path_to_is_short h xs i)
