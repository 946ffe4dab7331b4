use Rattle.std.proofs.Common.{drop}
use Rattle.std.specs.Prelude.{option_map}
use Rattle.syslog_grammar.specs.Sorting.{IsTextOf}
use Rattle.syslog_grammar.proofs.Sorting.{Written}
use Rattle.syslog_grammar.proofs.few_elements.put_texts.Given as goal

abbrev pub invariant-loop-i : goal.invariant-loop-i
invariant-loop-i l = Written (IsTextOf l.is_form) l.texts (drop l.i l.texts) (option_map (λ s. s.now) l.greatest)
    l.fn.out.items l.out.items
