use Rattle.std.proofs.Common.{length}
use Rattle.syslog_reading.proofs.Meanings.{Matches}
use Rattle.syslog_reading.proofs.same.same_value.Given as goal

abbrev pub invariant-loop-first : goal.invariant-loop-first
invariant-loop-first l = Matches l.raw l.text l.spelling l.meaning

abbrev pub decreases-loop-first : goal.decreases-loop-first
decreases-loop-first l = length l.spelling
