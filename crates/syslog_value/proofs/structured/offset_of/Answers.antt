use Rattle.std.proofs.Common.{rules}
use Rattle.std.specs.Cmp.Lexicographic.{slice_cmp}
use Rattle.std.specs.Ordering.{nat_cmp}
use Rattle.std.proofs.lemmas.Fn.{always_returns_same}
use Rattle.syslog_value.proofs.structured.offset_of.Goals as goal

pub returns-clause-offset : goal.returns-clause-offset
returns-clause-offset c =
    c.binary_search_by.ensures.position (λ e. slice_cmp nat_cmp e.id c.args.id.now)
    (always_returns_same _ _ _ (λ a r f' call. search rules))
