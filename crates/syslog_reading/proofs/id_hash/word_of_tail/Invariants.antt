use Rattle.std.proofs.Common.{◌≡◌, length}
use Rattle.syslog_reading.specs.IdHashes.{tail_word}
use Rattle.syslog_reading.proofs.id_hash.word_of_tail.Given as goal

abbrev pub invariant-loop-first : goal.invariant-loop-first
invariant-loop-first l = tail_word l.word l.rest ≡ tail_word 1 l.octets

abbrev pub decreases-loop-first : goal.decreases-loop-first
decreases-loop-first l = length l.rest
