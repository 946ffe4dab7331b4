use Rattle.std.proofs.Common.{◌≡◌, drop}
use Rattle.syslog_reading.specs.IdHashes.{words_hash}
use Rattle.syslog_reading.proofs.id_hash.hash_of_words.Given as goal

abbrev pub invariant-loop-i : goal.invariant-loop-i
invariant-loop-i l = words_hash l.multiplier l.hash (drop l.i l.words) ≡ words_hash l.multiplier 0 l.words
