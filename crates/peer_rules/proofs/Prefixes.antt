-- The first bits of a number.
use Rattle.std.proofs.Common.{◌≡◌, ℕ, ◌-◌, ◌*◌, ◌/◌, ◌%◌, ◌<◌, arith}
use Rattle.std.proofs.Math.Nat.{mul-div_cancel, mul-mod_left}
use Rattle.std.proofs.lemmas.Nat.{div-add-mod'}

-- without what is behind them it is so many times their number
without_rest : (n d : ℕ) → n - n % d ≡ n / d * d
without_rest n d = omega (arith, div-add-mod' n d)

-- nothing is behind them then
pub exact_front : (n d : ℕ) → (n - n % d) % d ≡ 0
exact_front n d = rw (without_rest n d) (mul-mod_left (n / d) d)

-- and they are the same
pub front_begins : (n d : ℕ) → 0 < d → (n - n % d) / d ≡ n / d
front_begins n d some = rw (without_rest n d) (mul-div_cancel (n / d) some)
