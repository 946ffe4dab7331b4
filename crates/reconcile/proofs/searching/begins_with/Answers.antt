use Rattle.std.proofs.Common.{◌∙◌}
use Rattle.reconcile.proofs.Found.{first_at}
use Rattle.reconcile.proofs.searching.begins_with.Goals as goal

pub returns-in-len1-up-clause-none : goal.returns-in-len1-up-clause-none
returns-in-len1-up-clause-none c h above m =
    c.is.ensures.1 (c.first-item.is ∙ first_at c.args.places.now c.args.place.now c.first-item.result
    c.in-len1-up.len_at_least h above m)
