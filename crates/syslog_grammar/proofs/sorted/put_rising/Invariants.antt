use Rattle.std.proofs.Common.{drop}
use Rattle.std.specs.Prelude.{option_map}
use Rattle.syslog_grammar.specs.Sorting.{IsKeyOf}
use Rattle.syslog_grammar.proofs.Sorting.{Written}
use Rattle.syslog_grammar.proofs.sorted.put_rising.Given as goal

abbrev pub invariant-loop-i : goal.invariant-loop-i
invariant-loop-i l = Written (IsKeyOf l.is_form l.elements) l.keys (drop l.i l.keys) (option_map (λ s. s.now) l.greatest)
    l.fn.out.items l.out.items
