use Rattle.std.proofs.Common.{◌≡◌, ◌++◌, drop}
use Rattle.collect_engine.specs.Lines.{counted, outcome_lines}
use Rattle.collect_engine.proofs.lines.put_outcomes.Given as goal

abbrev pub invariant-loop-outcome : goal.invariant-loop-outcome
invariant-loop-outcome l = record {
  lines : l.lines.items ++ outcome_lines l.number (drop l.outcome-index l.outcomes)
      ≡ l.fn.lines.items ++ outcome_lines l.fn.number l.outcomes;
  number : counted l.number (drop l.outcome-index l.outcomes) ≡ counted l.fn.number l.outcomes;
}
