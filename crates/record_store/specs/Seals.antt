-- The seal of a batch: how many octets its entries have, and their checksum.
use Rattle.std.specs.Prelude.{◌≡◌, ◌≢◌, ◌⊎◌, ℕ, List, [], ◌∷◌, ◌++◌, length}
use Rattle.std.specs.Int.{w32, to_le_bytes}
use Rattle.crc32c.specs.Castagnoli.{crc32c}
use Rattle.journal.specs.Batches.{IsBody, open_batch}

-- behind the entries of a batch: '#', how many octets they have, and their CRC-32C, each number in 4 octets with the low
-- ones first; no entry begins with '#'
abbrev pub seal_of : List ℕ → List ℕ
seal_of text = 35 ∷ to_le_bytes w32 (length text) ++ to_le_bytes w32 (crc32c text)

-- a text and its seal
abbrev pub sealed : List ℕ → List ℕ
sealed text = text ++ seal_of text

-- behind a text is its seal, or nothing, as older programs wrote it
abbrev pub Seals : List ℕ → List ℕ → Type 0
Seals text behind = (behind ≡ []) ⊎ (behind ≡ seal_of text)

-- something is there, and it does not begin as a seal does
abbrev pub HasMore : List ℕ → Type 0
HasMore [] = ⊥
HasMore (octet ∷ behind) = octet ≢ 35

-- a body is a text and its seal
pub record IsSealed (body : List ℕ) : Type 0 where
  pub text : List ℕ
  pub text_is : body ≡ sealed text

-- ---- what is behind the batches of a journal

-- a batch that is open, whole and sealed is at the beginning
pub record BeginsSealed (octets : List ℕ) : Type 0 where
  pub body : List ℕ
  pub rest : List ℕ
  pub text : octets ≡ open_batch body ++ rest
  pub sized : IsBody body
  pub sealed : IsSealed body

-- the octet before a batch that is not open is 254; older programs wrote 0
abbrev pub IsNoGate : ℕ → Type 0
IsNoGate gate = (gate ≢ 254) × (gate ≢ 0)

-- a sealed batch is behind the octet that older programs wrote, which sealed none
pub record HidesFirst (gate : ℕ) (behind : List ℕ) : Type 0 where
  pub older : gate ≡ 0
  pub first : BeginsSealed (1 ∷ behind)

-- behind a batch that is not open is one that is open and sealed
pub record HidesNext (behind : List ℕ) : Type 0 where
  pub skipped : List ℕ
  pub sized : IsBody skipped
  pub rest : List ℕ
  pub text : 1 ∷ behind ≡ open_batch skipped ++ rest
  pub next : BeginsSealed rest

-- What is behind the batches is not what a crash leaves there, so it hides batches: its first octet is another than those
-- that stand before a batch that is not open, or a sealed batch stands where none can be. One octet hides nothing.
pub record HidesBatches (tail : List ℕ) : Type 0 where
  pub gate : ℕ
  pub behind : List ℕ
  pub parts : tail ≡ gate ∷ behind
  pub more : behind ≢ []
  pub way : IsNoGate gate ⊎ (HidesFirst gate behind ⊎ HidesNext behind)
