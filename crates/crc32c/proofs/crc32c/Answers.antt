use Rattle.std.proofs.Common.{◌-◌, ◌*◌, ◌/◌, ◌^◌, length, drop, bit_xor, ap, ◌∙◌}
use Rattle.crc32c.specs.Castagnoli.{after_octets, crc32c}
use Rattle.crc32c.proofs.Registers.{all_behind, octets_split}
use Rattle.crc32c.proofs.crc32c.Goals as goal

pub returns : goal.returns
unfolding crc32c
returns c =
    ap (λ r. bit_xor r (2 ^ 32 - 1))
    (c.after_octets.ensures
    ∙ ap (after_octets c.after_words-words.result) (all_behind c.args.octets.now (length c.args.octets.now / 8 * 8))
    ∙ ap (λ r. after_octets r (drop (length c.args.octets.now / 8 * 8) c.args.octets.now)) c.after_words-words.ensures
    ∙ octets_split (2 ^ 32 - 1) c.args.octets.now (length c.args.octets.now / 8 * 8))
