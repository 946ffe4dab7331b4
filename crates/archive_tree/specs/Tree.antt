-- The Merkle tree of RFC 9162, section 2.1. An entry is an octet text.
use Rattle.std.specs.Prelude.{ℕ, zero, suc, ◌-◌, ◌^◌, List, [], ◌∷◌, ◌++◌, length, take, drop, nat_le, nat_lt}
use Rattle.std.specs.Prelude.{if◌then◌else◌}
use Rattle.sha2.specs.Sha256.{sha256}

-- the hash of a leaf (section 2.1.1): SHA-256 of an octet 0 and the entry
abbrev pub leaf_hash : List ℕ → List ℕ
leaf_hash octets = sha256 (0 ∷ octets)

-- the hash above two others: SHA-256 of an octet 1 and both
abbrev pub node_hash : List ℕ → List ℕ → List ℕ
node_hash left right = sha256 (1 ∷ left ++ right)

-- the hash of at most one entry
abbrev pub hash_of_one : List (List ℕ) → List ℕ
hash_of_one [] = sha256 []
hash_of_one (x ∷ xs) = leaf_hash x

-- the hash of at most 2 ^ h entries; 2 ^ h is the largest power of two below each number from 2 ^ h + 1 to 2 ^ (h + 1)
unfoldable pub hash_to : ℕ → List (List ℕ) → List ℕ
hash_to zero xs = hash_of_one xs
hash_to (suc h) xs =
    (if nat_le (length xs) (2 ^ h) then hash_to h xs
    else node_hash (hash_to h (take (2 ^ h) xs)) (hash_to h (drop (2 ^ h) xs)))

-- the Merkle tree hash of entries (section 2.1.1)
abbrev pub tree_hash : List (List ℕ) → List ℕ
tree_hash xs = hash_to (length xs) xs

-- the hashes beside the way from the entry at i, of at most 2 ^ h, up to the root
unfoldable pub path_to : ℕ → List (List ℕ) → ℕ → List (List ℕ)
path_to zero xs i = []
path_to (suc h) xs i =
    (if nat_le (length xs) (2 ^ h) then path_to h xs i
    else (if nat_lt i (2 ^ h) then path_to h (take (2 ^ h) xs) i ++ hash_to h (drop (2 ^ h) xs) ∷ []
    else path_to h (drop (2 ^ h) xs) (i - 2 ^ h) ++ hash_to h (take (2 ^ h) xs) ∷ []))

-- the audit path of the entry at i (section 2.1.3.1)
abbrev pub audit_path : List (List ℕ) → ℕ → List (List ℕ)
audit_path xs i = path_to (length xs) xs i
