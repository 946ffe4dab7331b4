-- A register that is the exclusive or of two: each goes its own way.
use Rattle.std.proofs.Common.{◌≡◌, ℕ, zero, suc, ◌+◌, ◌*◌, ◌/◌, ◌%◌, ◌^◌, ◌<◌, bit_xor, sym, ap, refl, ◌∙◌, arith, add-zero, zero-add, mod-lt, lit<}
use Rattle.std.proofs.lemmas.Nat.{xor_comm, xor_shr, xor_mod, xor_block, mod_low, shr_high, div-add-mod'}
use Rattle.std.proofs.Math.Nat.{mul_assoc, pow-suc, div-eq_of_lt}
use Rattle.std.specs.Int.Bits.{xor_zero_l, xor_zero_r}
use lib.Bits.{xor_assoc}
use Rattle.crc32c.specs.Castagnoli.{after_bit, after_bits, polynomial}

-- the middle two of four change places
pub xor_middle : (a b c d : ℕ) → bit_xor (bit_xor a b) (bit_xor c d) ≡ bit_xor (bit_xor a c) (bit_xor b d)
xor_middle a b c d =
    xor_assoc a b (bit_xor c d)
    ∙ ap (bit_xor a) (sym (xor_assoc b c d) ∙ ap (λ n. bit_xor n d) (xor_comm b c) ∙ xor_assoc c b d)
    ∙ sym (xor_assoc a c (bit_xor b d))

-- numbers whose bits lie apart
pub xor_apart : (high low : ℕ) → low < 256 → bit_xor (high * 256) low ≡ high * 256 + low
xor_apart high low l =
    ap (λ n. bit_xor n low) (sym (add-zero (high * 256))) ∙ ap (bit_xor (high * 256 + 0)) (sym (zero-add low))
    ∙ xor_block 8 high 0 0 low (lit< tt) l
    ∙ ap (λ n. n * 256 + bit_xor 0 low) (xor_zero_r high) ∙ ap (λ n. high * 256 + n) (xor_zero_l low)

-- what a bit that leaves takes away
abbrev taken : ℕ → ℕ
taken bit = bit * polynomial

bit_taken : (half bit register : ℕ) → bit < 2 → register / 2 ≡ half → register % 2 ≡ bit → after_bit register ≡ bit_xor half (taken bit)
bit_taken half zero register l h b = rw (b, h) (sym (xor_zero_r half))
bit_taken half (suc zero) register l h b = rw (b, h) refl
bit_taken half (suc (suc n)) register l h b = absurd (omega arith)

taken_xor : (a b : ℕ) → a < 2 → b < 2 → taken (bit_xor a b) ≡ bit_xor (taken a) (taken b)
taken_xor zero zero la lb = refl
taken_xor zero (suc zero) la lb = refl
taken_xor (suc zero) zero la lb = refl
taken_xor (suc zero) (suc zero) la lb = refl
taken_xor zero (suc (suc n)) la lb = absurd (omega arith)
taken_xor (suc zero) (suc (suc n)) la lb = absurd (omega arith)
taken_xor (suc (suc n)) b la lb = absurd (omega arith)

by_halves : (r : ℕ) → after_bit r ≡ bit_xor (r / 2) (taken (r % 2))
by_halves r = bit_taken (r / 2) (r % 2) r (mod-lt r (lit< tt)) refl refl

pub after_bit_xor : (a b : ℕ) → after_bit (bit_xor a b) ≡ bit_xor (after_bit a) (after_bit b)
after_bit_xor a b =
    by_halves (bit_xor a b)
    ∙ ap (λ n. bit_xor n (taken (bit_xor a b % 2))) (xor_shr a b 1)
    ∙ ap (λ n. bit_xor (bit_xor (a / 2) (b / 2)) (taken n)) (xor_mod a b 1)
    ∙ ap (bit_xor (bit_xor (a / 2) (b / 2))) (taken_xor (a % 2) (b % 2) (mod-lt a (lit< tt)) (mod-lt b (lit< tt)))
    ∙ xor_middle (a / 2) (b / 2) (taken (a % 2)) (taken (b % 2))
    ∙ ap (λ n. bit_xor n (bit_xor (b / 2) (taken (b % 2)))) (sym (by_halves a))
    ∙ ap (bit_xor (after_bit a)) (sym (by_halves b))

pub after_bits_xor : (n a b : ℕ) → after_bits n (bit_xor a b) ≡ bit_xor (after_bits n a) (after_bits n b)
unfolding after_bits
after_bits_xor zero a b = refl
after_bits_xor (suc n) a b = ap (after_bits n) (after_bit_xor a b) ∙ after_bits_xor n (after_bit a) (after_bit b)

-- bits above those that leave only move down
pub bits_above : (n a : ℕ) → after_bits n (a * 2 ^ n) ≡ a
unfolding after_bits
bits_above zero a = omega arith
bits_above (suc n) a =
    let b : ℕ = a * 2 ^ n in
    let e : a * 2 ^ suc n ≡ b * 2 + 0 = ap (λ m. a * m) (pow-suc 2 n) ∙ sym (mul_assoc a (2 ^ n) 2) ∙ sym (add-zero (b * 2)) in
    let half : (b * 2 + 0) / 2 ≡ b = shr_high b 1 0 (lit< tt) in
    let bit : (b * 2 + 0) % 2 ≡ 0 = mod_low b 1 0 (lit< tt) in
    ap (λ r. after_bits n (after_bit r)) e
    ∙ ap (after_bits n) (bit_taken b 0 (b * 2 + 0) (lit< tt) half bit ∙ xor_zero_r b) ∙ bits_above n a

-- the low octet leaves, the others move down
pub octet_leaves : (r : ℕ) → after_bits 8 r ≡ bit_xor (after_bits 8 (r % 256)) (r / 256)
octet_leaves r =
    let e : bit_xor (r / 256 * 256) (r % 256) ≡ r = xor_apart (r / 256) (r % 256) (mod-lt r (lit< tt)) ∙ div-add-mod' r 256 in
    ap (after_bits 8) (sym e) ∙ after_bits_xor 8 (r / 256 * 256) (r % 256)
    ∙ ap (λ n. bit_xor n (after_bits 8 (r % 256))) (bits_above 8 (r / 256))
    ∙ xor_comm (r / 256) (after_bits 8 (r % 256))

-- an octet meets the low bits alone
pub octet_is_low : (r x : ℕ) → x < 256 → bit_xor r x / 256 ≡ r / 256
octet_is_low r x l = xor_shr r x 8 ∙ ap (bit_xor (r / 256)) (div-eq_of_lt l) ∙ xor_zero_r (r / 256)
