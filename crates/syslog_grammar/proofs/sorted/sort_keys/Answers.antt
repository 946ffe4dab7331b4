use Rattle.std.proofs.lemmas.List.Sorted.{IsPermutation-trans}
use Rattle.syslog_grammar.proofs.sorted.sort_keys.Goals as goal

pub returns-then-have_ties : goal.returns-then-have_ties
returns-then-have_ties c = IsPermutation-trans c.args.keys.now c.sort_unstable.new.self c.sort_unstable_by.new.self
    c.sort_unstable.ensures.permutation c.sort_unstable_by.ensures.permutation
