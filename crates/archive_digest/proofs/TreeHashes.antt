-- The length of Merkle tree hashes.
use Rattle.std.proofs.Common.{◌≡◌, ℕ, suc, zero, List, [], ◌∷◌, length}
use Rattle.std.specs.Prelude.{Bool, true, false, if◌then◌else◌}
use Rattle.sha2.proofs.Facts256.{length-sha256}
use Rattle.archive_tree.specs.Tree.{hash_of_one, hash_to, tree_hash}

-- ---- a tree hash has 32 octets

hash_of_one_length : (xs : List (List ℕ)) → length (hash_of_one xs) ≡ 32
hash_of_one_length [] = length-sha256 []
hash_of_one_length (x ∷ xs) = length-sha256 (0 ∷ x)

either_length : (b : Bool) (xs ys : List ℕ) → length xs ≡ 32 → length ys ≡ 32 → length (if b then xs else ys) ≡ 32
either_length true xs ys h k = h
either_length false xs ys h k = k

hash_length : (h : ℕ) (xs : List (List ℕ)) → length (hash_to h xs) ≡ 32
unfolding hash_to
hash_length zero xs = hash_of_one_length xs
hash_length (suc h) xs = either_length _ _ _ (hash_length h xs) (length-sha256 _)

pub length-tree_hash : (xs : List (List ℕ)) → length (tree_hash xs) ≡ 32
length-tree_hash xs = hash_length (length xs) xs
