-- The checksum CRC-32C: the remainder of octets, as a polynomial over bits, by that of Castagnoli, 0x1EDC6F41. Bits come
-- low first, so the register has them in reverse, and so has the polynomial.
use Rattle.std.specs.Prelude.{ℕ, zero, suc, ◌-◌, ◌/◌, ◌%◌, ◌^◌, ◌==◌, if◌then◌else◌, List, [], ◌∷◌, bit_xor}

-- the bits of 0x1EDC6F41 in reverse
abbrev pub polynomial : ℕ
polynomial = 0x82F63B78

-- after one bit: where a one leaves the register, the polynomial is taken away
abbrev pub after_bit : ℕ → ℕ
after_bit register = if register % 2 == 1 then bit_xor (register / 2) polynomial else register / 2

-- after so many bits
unfoldable pub after_bits : ℕ → ℕ → ℕ
after_bits zero register = register
after_bits (suc n) register = after_bits n (after_bit register)

-- after octets, each of which meets the low bits of the register
unfoldable pub after_octets : ℕ → List ℕ → ℕ
after_octets register [] = register
after_octets register (octet ∷ octets) = after_octets (after_bits 8 (bit_xor register octet)) octets

-- the register begins with ones, and each of its bits is turned over in the end
unfoldable pub crc32c : List ℕ → ℕ
crc32c octets = bit_xor (after_octets (2 ^ 32 - 1) octets) (2 ^ 32 - 1)
