-- What is hashed in a tree and on a way.
use Rattle.std.proofs.Common.{◌≡◌, ◌≢◌, ℕ, zero, suc, ◌-◌, ◌^◌, ◌<◌, ◌≤◌, ◌⊎◌, inl, inr, List, [], ◌∷◌, ◌++◌, length}
use Rattle.std.proofs.Common.{Bool, true, false, refl, subst, arith, length-append}
use Rattle.std.specs.Prelude.{Option, None, Some, nat_le, nat_lt, if◌then◌else◌}
use Rattle.std.specs.Option.{option_map}
use Rattle.std.proofs.lemmas.List.{take_at, drop_at}
use Rattle.std.proofs.lemmas.Slice.Eq.{bytes_eq-Decides}
use Rattle.std.specs.Bool.{Decides}
use Rattle.std.specs.Str.{bytes_eq}
use Rattle.sha2.proofs.Facts256.{length-sha256}
use Rattle.archive_tree.specs.Tree.{leaf_hash, node_hash, hash_of_one, hash_to}
use Rattle.archive_tree.proofs.TreeLaws.{test_le, test_gt, test_lt, test_ge}
use Rattle.archive_proof.specs.Climbing.{climb, IsHashedIn, IsHashedBy}

decided : (P : Type 0) (r : Bool) → Decides r P → P ⊎ (P → ⊥)
decided P true d = inl (d.0 refl)
decided P false d = inr (λ p. let e : false ≡ true = d.1 p in cc)

pub same_or_not : (a b : List ℕ) → (a ≡ b) ⊎ (a ≢ b)
same_or_not a b = decided (a ≡ b) (bytes_eq a b) (bytes_eq-Decides a b)

pub le_or_gt : (m n : ℕ) → (m ≤ n) ⊎ (n < m)
le_or_gt m n = grind arith

-- ---- in a tree

pub in_small : (h : ℕ) (xs : List (List ℕ)) (t : List ℕ) → length xs ≤ 2 ^ h → IsHashedIn h xs t → IsHashedIn (suc h)
    xs t
unfolding IsHashedIn
in_small h xs t fits k = rw (test_le (length xs) (2 ^ h) fits) k

in_split : (h : ℕ) (xs ys : List (List ℕ)) (t : List ℕ) → length xs ≡ 2 ^ h → 0 < length ys
    → (t ≡ 1 ∷ hash_to h xs ++ hash_to h ys) ⊎ (IsHashedIn h xs t ⊎ IsHashedIn h ys t) → IsHashedIn (suc h) (xs ++ ys) t
unfolding IsHashedIn
in_split h xs ys t size some k =
    let more : 2 ^ h < length (xs ++ ys) = omega (arith, length-append xs ys) in
    rw (test_gt (length (xs ++ ys)) (2 ^ h) more, take_at xs ys (2 ^ h) size, drop_at xs ys (2 ^ h) size) k

pub in_node : (h : ℕ) (xs ys : List (List ℕ)) → length xs ≡ 2 ^ h → 0 < length ys
    → IsHashedIn (suc h) (xs ++ ys) (1 ∷ hash_to h xs ++ hash_to h ys)
in_node h xs ys size some = in_split h xs ys (1 ∷ hash_to h xs ++ hash_to h ys) size some (inl refl)

pub in_left : (h : ℕ) (xs ys : List (List ℕ)) (t : List ℕ) → length xs ≡ 2 ^ h → 0 < length ys → IsHashedIn h xs t
    → IsHashedIn (suc h) (xs ++ ys) t
in_left h xs ys t size some k = in_split h xs ys t size some (inr (inl k))

pub in_right : (h : ℕ) (xs ys : List (List ℕ)) (t : List ℕ) → length xs ≡ 2 ^ h → 0 < length ys → IsHashedIn h ys t
    → IsHashedIn (suc h) (xs ++ ys) t
in_right h xs ys t size some k = in_split h xs ys t size some (inr (inr k))

pub in_one : (x : List ℕ) → IsHashedIn 0 (x ∷ []) (0 ∷ x)
unfolding IsHashedIn
in_one x = refl

-- ---- on a way

pub by_small : (h n i : ℕ) (e : List ℕ) (ps : List (List ℕ)) (t : List ℕ) → n ≤ 2 ^ h → IsHashedBy h n i e ps t
    → IsHashedBy (suc h) n i e ps t
unfolding IsHashedBy
by_small h n i e [] t fits k = k
by_small h n i e (p ∷ ps) t fits k = rw (test_le n (2 ^ h) fits) k

pub by_left : (h n i : ℕ) (e p : List ℕ) (ps : List (List ℕ)) (t : List ℕ) → 2 ^ h < n → i < 2 ^ h
    → ((a : List ℕ) × (climb h (2 ^ h) i (leaf_hash e) ps ≡ Some a) × (t ≡ 1 ∷ a ++ p)) ⊎ IsHashedBy h (2 ^ h) i e ps t
    → IsHashedBy (suc h) n i e (p ∷ ps) t
unfolding IsHashedBy
by_left h n i e p ps t more here k = rw (test_gt n (2 ^ h) more, test_lt i (2 ^ h) here) k

pub by_right : (h n i : ℕ) (e p : List ℕ) (ps : List (List ℕ)) (t : List ℕ) → 2 ^ h < n → 2 ^ h ≤ i
    → ((b : List ℕ) × (climb h (n - 2 ^ h) (i - 2 ^ h) (leaf_hash e) ps ≡ Some b) × (t ≡ 1 ∷ p ++ b))
    ⊎ IsHashedBy h (n - 2 ^ h) (i - 2 ^ h) e ps t
    → IsHashedBy (suc h) n i e (p ∷ ps) t
unfolding IsHashedBy
by_right h n i e p ps t more here k = rw (test_gt n (2 ^ h) more, test_ge i (2 ^ h) here) k

pub by_one : (n i : ℕ) (e : List ℕ) (ps : List (List ℕ)) → IsHashedBy 0 n i e ps (0 ∷ e)
unfolding IsHashedBy
by_one n i e ps = refl

-- ---- 32 octets

either_length : (b : Bool) (x y : List ℕ) → length x ≡ 32 → length y ≡ 32 → length (if b then x else y) ≡ 32
either_length true x y h k = h
either_length false x y h k = k

one_length : (xs : List (List ℕ)) → length (hash_of_one xs) ≡ 32
one_length [] = length-sha256 []
one_length (x ∷ xs) = length-sha256 (0 ∷ x)

pub hash_length : (h : ℕ) (xs : List (List ℕ)) → length (hash_to h xs) ≡ 32
unfolding hash_to
hash_length zero xs = one_length xs
hash_length (suc h) xs = either_length _ _ _ (hash_length h xs) (length-sha256 _)

abbrev Is32 : Option (List ℕ) → Type 0
Is32 o = (a : List ℕ) → o ≡ Some a → length a ≡ 32

either_32 : (b : Bool) (x y : Option (List ℕ)) → Is32 x → Is32 y → Is32 (if b then x else y)
either_32 true x y h k = h
either_32 false x y h k = k

none_32 : Is32 None
none_32 a e = cc

some_32 : (x : List ℕ) → length x ≡ 32 → Is32 (Some x)
some_32 x h a e = let same : x ≡ a = cc in subst (λ (l : List ℕ). length l ≡ 32) same h

left_32 : (p : List ℕ) (o : Option (List ℕ)) → Is32 (option_map (λ a. node_hash a p) o)
left_32 p None = none_32
left_32 p (Some x) = some_32 (node_hash x p) (length-sha256 (1 ∷ x ++ p))

right_32 : (p : List ℕ) (o : Option (List ℕ)) → Is32 (option_map (λ b. node_hash p b) o)
right_32 p None = none_32
right_32 p (Some x) = some_32 (node_hash p x) (length-sha256 (1 ∷ p ++ x))

pub climb_length : (h n i : ℕ) (leaf : List ℕ) (ps : List (List ℕ)) → length leaf ≡ 32 → Is32 (climb h n i leaf ps)
unfolding climb
climb_length zero n i leaf [] size = some_32 leaf size
climb_length zero n i leaf (p ∷ ps) size = none_32
climb_length (suc h) n i leaf [] size = either_32 _ _ _ (climb_length h n i leaf [] size) none_32
climb_length (suc h) n i leaf (p ∷ ps) size =
    either_32 (nat_le n (2 ^ h)) _ _ (climb_length h n i leaf (p ∷ ps) size)
    (either_32 (nat_lt i (2 ^ h)) _ _ (left_32 p (climb h (2 ^ h) i leaf ps))
    (right_32 p (climb h (n - 2 ^ h) (i - 2 ^ h) leaf ps)))
