use Rattle.std.proofs.Common.{◌≡◌, ◌*◌, take}
use Rattle.crc32c.specs.Castagnoli.{after_octets}
use Rattle.crc32c.proofs.after_words.Given as goal

-- so many words were taken
abbrev pub invariant-loop-word : goal.invariant-loop-word
invariant-loop-word l = l.after ≡ after_octets l.fn.register (take (l.word * 8) l.octets)
