use Rattle.std.proofs.Common.{◌∙◌}
use Rattle.store_follow.proofs.Listed.{last_of}
use Rattle.store_follow.proofs.listing.last.Goals as goal

pub returns-clause-greatest : goal.returns-clause-greatest
returns-clause-greatest c =
    let a = c.last.ensures.value in
    let d = c.copied.ensures in
    last_of c.args.numbers.now c.copied.result (d ∙ a)
