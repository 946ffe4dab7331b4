use Rattle.std.proofs.Common.{◌≤◌, length}
use Rattle.syslog_grammar.specs.Sorting.{IsTextOf}
use Rattle.syslog_grammar.proofs.Sorting.{Fills}
use Rattle.syslog_grammar.proofs.few_elements.fill_texts.Given as goal

abbrev pub invariant-loop-first : goal.invariant-loop-first
invariant-loop-first l = record {
  room : l.count ≤ length l.texts;
  fills : Fills IsTextOf l.elements l.rest l.count l.texts;
}

abbrev pub decreases-loop-first : goal.decreases-loop-first
decreases-loop-first l = length l.rest
