-- What several calls append, one behind the other.
use Rattle.std.proofs.Common.{◌≡◌, ◌++◌, ℕ, List, OnOk, Result, Ok, Err, append_assoc}
use Rattle.std.specs.declared.alloc.AllocError.{AllocError}

-- a text, and behind it what the further calls append
pub behind : (last : Result (Unit {0}) AllocError) (old text x rest new : List ℕ) → x ≡ old ++ text → OnOk last (new ≡ x ++ rest)
    → OnOk last (new ≡ old ++ (text ++ rest))
behind (Ok u) old text x rest new first others = rw (others, first) (append_assoc old text rest)
behind (Err e) old text x rest new first others = tt
