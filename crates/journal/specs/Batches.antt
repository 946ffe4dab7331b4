-- The octets of a journal: batches that are open, and then one that is closed.
use Rattle.std.specs.Prelude.{◌≡◌, ◌≢◌, ℕ, ◌^◌, ◌<◌, List, [], ◌∷◌, ◌++◌, length}
use Rattle.std.specs.Int.{w32, to_le_bytes}
use Rattle.std.specs.List.{AllByRecursion}

-- what is written before a batch is opened: the number of its octets, in 4 octets with the low ones first, its octets,
-- and the
-- octet that the next batch is opened by, closed
abbrev pub closed_batch : List ℕ → List ℕ
closed_batch body = to_le_bytes w32 (length body) ++ body ++ 254 ∷ []

-- a batch that is open
abbrev pub open_batch : List ℕ → List ℕ
open_batch body = 1 ∷ to_le_bytes w32 (length body) ++ body

-- open batches, one behind the other
abbrev pub batches_text : List (List ℕ) → List ℕ
batches_text [] = []
batches_text (body ∷ bodies) = open_batch body ++ batches_text bodies

-- the number of its octets can be written
abbrev pub IsBody : List ℕ → Type 0
IsBody body = length body < 2 ^ 32

-- no batch that is open and whole is at the beginning
abbrev pub IsClosed : List ℕ → Type 0
IsClosed octets = (body rest : List ℕ) → IsBody body → octets ≢ open_batch body ++ rest

-- A file of these batches: each open and whole, and behind them anything that is no such batch.
pub record HasBatches (file : List ℕ) (bodies : List (List ℕ)) : Type 0 where
  pub tail : List ℕ
  pub text : file ≡ batches_text bodies ++ tail
  pub closed : IsClosed tail
  pub sized : AllByRecursion IsBody bodies

-- a batch of so many octets is open and whole at the beginning
pub record BeginsWithBatch (octets : List ℕ) (len : ℕ) : Type 0 where
  pub body : List ℕ
  pub rest : List ℕ
  pub text : octets ≡ open_batch body ++ rest
  pub len_is : len ≡ length body
  pub sized : IsBody body
