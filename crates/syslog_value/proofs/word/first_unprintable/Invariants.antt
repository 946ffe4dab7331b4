use Rattle.std.proofs.Common.{ℕ, ◌<◌, slice_index}
use Rattle.syslog_value.specs.Parts.{IsPrintable}
use Rattle.syslog_value.proofs.word.first_unprintable.Given as goal

abbrev pub invariant-loop-offset : goal.invariant-loop-offset
invariant-loop-offset l = (k : ℕ) → k < l.offset → IsPrintable (slice_index l.octets k)
