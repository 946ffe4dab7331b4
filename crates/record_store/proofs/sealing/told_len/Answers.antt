use Rattle.std.proofs.Common.{ℕ, zero, suc, lit<, ◌<◌, ◌∷◌, get_or, refl, arith}
use Rattle.journal.proofs.Readings.{begins}
use Rattle.record_store.proofs.sealing.told_len.Goals as goal

pub returns-clause-found : goal.returns-clause-found
returns-clause-found c =
    begins (1 ∷ c.args.octets.now) c.from_le_bytes-len.result (omega (arith, c.if-octets-lt-LEN.false)) refl
    (omega (arith, c.if-len-octets.false)) below c.from_le_bytes-len.ensures c.from_le_bytes-len.type_inv
  where
    below : (i : ℕ) → get_or (1 ∷ c.args.octets.now) i 0 < 256
    below zero = lit< tt
    below (suc i) = omega (arith, c.type_inv.octets i)
