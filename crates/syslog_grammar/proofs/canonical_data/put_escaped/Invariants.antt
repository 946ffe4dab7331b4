use Rattle.std.proofs.Common.{length}
use Rattle.syslog_fields.proofs.EscapedRuns.{Escapes}
use Rattle.syslog_grammar.proofs.canonical_data.put_escaped.Given as goal

abbrev pub invariant-loop-offset : goal.invariant-loop-offset
invariant-loop-offset l = Escapes l.text l.rest l.fn.out.items l.out.items

abbrev pub decreases-loop-offset : goal.decreases-loop-offset
decreases-loop-offset l = length l.rest
