-- The hash of an id, and where a table keeps it.
use Rattle.std.specs.Prelude.{◌≡◌, ◌≢◌, ℕ, ◌+◌, ◌*◌, ◌/◌, ◌%◌, ◌^◌, List, [], ◌∷◌, ◌⊎◌, length, drop}
use Rattle.std.specs.Int.{from_le_bytes, w64}
use Rattle.std.specs.Simd.{first_chunks}

-- the upper half of a product modulo 2 ^ 64 is added to it
abbrev pub folded : ℕ → ℕ
folded product = (product + product / 4294967296) % 2 ^ 64

-- a word is mixed into a hash by a multiplier
abbrev pub mix : ℕ → ℕ → ℕ → ℕ
mix multiplier hash word = folded (((hash + word) % 2 ^ 64 * multiplier) % 2 ^ 64)

-- words of eight octets, one after the other
abbrev pub words_hash : ℕ → ℕ → List (List ℕ) → ℕ
words_hash multiplier hash [] = hash
words_hash multiplier hash (word ∷ words) =
    words_hash multiplier (mix multiplier hash (from_le_bytes w64 word)) words

-- octets as the digits of a number
abbrev pub tail_word : ℕ → List ℕ → ℕ
tail_word word [] = word
tail_word word (x ∷ octets) = tail_word (((word * 256) % 2 ^ 64 + x) % 2 ^ 64) octets

-- the hash of an id: its whole words, and then the octets that are left
unfoldable pub hash_of : ℕ → List ℕ → ℕ
hash_of multiplier id =
    mix multiplier (words_hash multiplier 0 (first_chunks 8 (length id / 8) id))
    (tail_word 1 (drop (length id / 8 * 8) id))

-- where the search for a hash begins in a table with so much room
unfoldable pub place_of : ℕ → ℕ → ℕ
place_of room hash = (hash / 140737488355328) % room

-- what stands for a hash in a table: never 0, which stands for a free slot
unfoldable pub tag_of : ℕ → ℕ
tag_of hash = (hash / 65536) % 2147483648 + 1

-- the tag comes before any free slot
abbrev pub IsMet : ℕ → List ℕ → Type 0
IsMet tag [] = ⊥
IsMet tag (x ∷ slots) = (x ≡ tag) ⊎ ((x ≢ 0) × IsMet tag slots)

-- the table has the hash
abbrev pub HasHash : ℕ → ℕ → List ℕ → Type 0
HasHash room hash slots = IsMet (tag_of hash) (drop (place_of room hash) slots)

-- the hash is new, and the table has it beside all that it had
pub record TakesHash (room hash : ℕ) (before after : List ℕ) : Type 0 where
  pub new : ¬ (HasHash room hash before)
  pub has : HasHash room hash after
  pub keeps : (other : ℕ) → HasHash room other before → HasHash room other after
