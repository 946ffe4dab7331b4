-- The way from an entry to the root, along a path that has the hash beside the root first.
use Rattle.std.specs.Prelude.{◌≡◌, ◌≢◌, ℕ, zero, suc, ◌-◌, ◌^◌, List, [], ◌∷◌, ◌++◌, Option, None, Some, ◌⊎◌, MatchBool}
use Rattle.std.specs.Prelude.{length, take, drop, nat_le, nat_lt, if◌then◌else◌}
use Rattle.std.specs.Option.{option_map}
use Rattle.sha2.specs.Sha256.{sha256}
use Rattle.archive_tree.specs.Tree.{leaf_hash, node_hash, hash_to}

-- the root of n entries, at most 2 ^ h, of which that at i has this hash; none if the path is too short or too long
unfoldable pub climb : ℕ → ℕ → ℕ → List ℕ → List (List ℕ) → Option (List ℕ)
climb zero n i leaf [] = Some leaf
climb zero n i leaf (p ∷ ps) = None
climb (suc h) n i leaf [] = (if nat_le n (2 ^ h) then climb h n i leaf [] else None)
climb (suc h) n i leaf (p ∷ ps) =
    (if nat_le n (2 ^ h) then climb h n i leaf (p ∷ ps)
    else (if nat_lt i (2 ^ h) then option_map (λ a. node_hash a p) (climb h (2 ^ h) i leaf ps)
    else option_map (λ b. node_hash p b) (climb h (n - 2 ^ h) (i - 2 ^ h) leaf ps)))

-- ---- what is hashed

-- the text is hashed where the tree of at most 2 ^ h entries is made
unfoldable pub IsHashedIn : ℕ → List (List ℕ) → List ℕ → Type 0
IsHashedIn zero [] t = t ≡ []
IsHashedIn zero (x ∷ xs) t = t ≡ 0 ∷ x
IsHashedIn (suc h) xs t =
    MatchBool (nat_le (length xs) (2 ^ h)) (IsHashedIn h xs t)
    ((t ≡ 1 ∷ hash_to h (take (2 ^ h) xs) ++ hash_to h (drop (2 ^ h) xs))
    ⊎ (IsHashedIn h (take (2 ^ h) xs) t ⊎ IsHashedIn h (drop (2 ^ h) xs) t))

-- the text is hashed on the way from this entry to the root
unfoldable pub IsHashedBy : ℕ → ℕ → ℕ → List ℕ → List (List ℕ) → List ℕ → Type 0
IsHashedBy zero n i e ps t = t ≡ 0 ∷ e
IsHashedBy (suc h) n i e [] t = IsHashedBy h n i e [] t
IsHashedBy (suc h) n i e (p ∷ ps) t =
    MatchBool (nat_le n (2 ^ h)) (IsHashedBy h n i e (p ∷ ps) t)
    (MatchBool (nat_lt i (2 ^ h))
    (((a : List ℕ) × (climb h (2 ^ h) i (leaf_hash e) ps ≡ Some a) × (t ≡ 1 ∷ a ++ p)) ⊎ IsHashedBy h (2 ^ h) i e ps t)
    (((b : List ℕ) × (climb h (n - 2 ^ h) (i - 2 ^ h) (leaf_hash e) ps ≡ Some b) × (t ≡ 1 ∷ p ++ b))
    ⊎ IsHashedBy h (n - 2 ^ h) (i - 2 ^ h) e ps t))

-- two different texts have one SHA-256: one that the tree hashes, and one that the way from this entry hashes
pub record Collision (h : ℕ) (xs : List (List ℕ)) (i : ℕ) (e : List ℕ) (ps : List (List ℕ)) : Type 0 where
  pub in_tree : List ℕ
  pub on_way : List ℕ
  pub hashed_in : IsHashedIn h xs in_tree
  pub hashed_by : IsHashedBy h (length xs) i e ps on_way
  pub differ : in_tree ≢ on_way
  pub same : sha256 in_tree ≡ sha256 on_way
