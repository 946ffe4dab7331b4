use Rattle.std.proofs.Common.{◌≡◌, ◌≤◌, ◌++◌, ℕ, List, length}
use Rattle.syslog_grammar.specs.Sorting.{IsKeyOf}
use Rattle.syslog_grammar.proofs.Sorting.{Fills}
use Rattle.syslog_grammar.proofs.sorted.fill_keys.Given as goal

abbrev pub invariant-loop-first : goal.invariant-loop-first
invariant-loop-first l = record {
  room : l.count ≤ length l.keys;
  suffix : (prefix : List ℕ) × (l.elements ≡ prefix ++ l.rest);
  fills : Fills (λ a. IsKeyOf a l.elements) l.elements l.rest l.count l.keys;
}

abbrev pub decreases-loop-first : goal.decreases-loop-first
decreases-loop-first l = length l.rest
