use Rattle.std.proofs.Common.{ℕ, bit_xor, ◌∙◌, arith}
use Rattle.std.proofs.lemmas.Nat.{xor_lt}
use Rattle.crc32c.proofs.Words.{all_rows, word_octets}
use Rattle.crc32c.proofs.after_word.Goals as goal

pub returns : goal.returns
returns c =
    let read : ℕ = c.from_le_bytes-read.result in
    (λ i. bit_xor (bit_xor (bit_xor (bit_xor (bit_xor (bit_xor (bit_xor (c.remainder.ensures i) (c.remainder-2.ensures i)) (c.remainder-3.ensures i))
    (c.remainder-4.ensures i)) (c.remainder-5.ensures i)) (c.remainder-6.ensures i)) (c.remainder-7.ensures i)) (c.remainder-8.ensures i))
    ∙ all_rows (bit_xor read c.args.register) (xor_lt 64 read c.args.register (omega (arith, c.from_le_bytes-read.type_inv)) (omega (arith, c.ranges.register)))
    ∙ word_octets c.args.register read c.args.octets.now c.requires (λ n. omega (arith, c.type_inv.octets n)) c.from_le_bytes-read.ensures
