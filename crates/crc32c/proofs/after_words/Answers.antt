use Rattle.std.proofs.Common.{◌≡◌, ◌+◌, ◌*◌, ◌/◌, length, take, drop, sym, ap, ◌∙◌, arith}
use Rattle.crc32c.specs.Castagnoli.{after_octets}
use Rattle.crc32c.proofs.Registers.{all_behind, octets_more, no_octets}
use Rattle.crc32c.proofs.after_words.Goals as goal

pub loop-word-init : goal.loop-word-init
loop-word-init c = sym (no_octets c.args.register)

pub loop-word-preserved : goal.loop-word-preserved
loop-word-preserved c =
    let e : (c.loop-word.word + 1) * 8 ≡ c.loop-word.word * 8 + 8 = omega arith in
    c.after_word-after.ensures
    ∙ ap (λ xs. after_octets c.loop-word.after (take 8 xs)) (all_behind c.args.octets.now (c.loop-word.word * 8))
    ∙ ap (λ r. after_octets r (take 8 (drop (c.loop-word.word * 8) c.args.octets.now))) c.loop-word.invariant
    ∙ sym (ap (λ n. after_octets c.args.register (take n c.args.octets.now)) e
    ∙ octets_more c.args.register c.args.octets.now (c.loop-word.word * 8) 8)

pub returns : goal.returns
returns c =
    let e : c.loop-word.word * 8 ≡ length c.args.octets.now / 8 * 8 = omega arith in
    c.loop-word.invariant ∙ ap (λ n. after_octets c.args.register (take n c.args.octets.now)) e
