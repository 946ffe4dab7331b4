use Rattle.std.proofs.Common.{length}
use Rattle.syslog_grammar.proofs.Rewritten.{ElementsWritten}
use Rattle.syslog_grammar.proofs.reescaped.put_elements.Given as goal

abbrev pub invariant-loop-first : goal.invariant-loop-first
invariant-loop-first l = ElementsWritten l.elements l.rest l.fn.out.items l.out.items

abbrev pub decreases-loop-first : goal.decreases-loop-first
decreases-loop-first l = length l.rest
