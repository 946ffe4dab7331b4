use Rattle.std.proofs.Common.{ℕ, ◌/◌, ◌%◌, get_or, bit_xor, sym, ap, ◌∙◌, mod-lt, lit<, arith}
use Rattle.std.proofs.lemmas.Nat.{and_mask}
use Rattle.crc32c.specs.Castagnoli.{after_bits}
use Rattle.crc32c.specs.declared.remainders.TheConstants.{REMAINDERS}
use Rattle.crc32c.proofs.Sums.{octet_is_low, octet_leaves}
use Rattle.crc32c.proofs.Tables.{first_remainder}
use Rattle.crc32c.proofs.after_octet.Goals as goal

pub returns : goal.returns
returns c =
    let met : ℕ = bit_xor c.args.register c.args.octet in
    ap (λ n. bit_xor (get_or REMAINDERS n 0) (c.args.register / 256)) (and_mask met 8)
    ∙ ap (λ n. bit_xor n (c.args.register / 256)) (first_remainder (met % 256) (mod-lt met (lit< tt)))
    ∙ ap (bit_xor (after_bits 8 (met % 256))) (sym (octet_is_low c.args.register c.args.octet (omega (arith, c.ranges.octet))))
    ∙ sym (octet_leaves met)
