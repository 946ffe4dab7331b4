use Rattle.std.proofs.Common.{ℕ, ◌/◌, length, ap, ◌∙◌}
use Rattle.std.specs.Simd.{first_chunks}
use Rattle.syslog_reading.specs.IdHashes.{hash_of, mix, tail_word, words_hash}
use Rattle.syslog_reading.proofs.id_hash.id_hash.Goals as goal

pub returns : goal.returns
unfolding hash_of
returns c =
    let id = c.args.id.now in
    let m = c.args.multiplier in
    c.mixed.ensures
    ∙ ap (λ (k : ℕ). mix m k c.word_of_tail.result)
    (c.hash_of_words.ensures ∙ ap (words_hash m 0) c.as_chunks.ensures.front)
    ∙ ap (λ (k : ℕ). mix m (words_hash m 0 (first_chunks 8 (length id / 8) id)) k)
    (c.word_of_tail.ensures ∙ ap (tail_word 1) c.as_chunks.ensures.back)
