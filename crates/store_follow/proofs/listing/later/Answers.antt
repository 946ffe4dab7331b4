use Rattle.std.proofs.Common.{◌≤◌, arith, length}
use Rattle.std.proofs.lemmas.List.{get_or_default}
use Rattle.store_follow.proofs.listing.later.Goals as goal

pub returns-clause-none : goal.returns-clause-none
returns-clause-none c n (k, below, here) =
    let over : length c.args.numbers.now ≤ c.loop-n.n-index = omega arith in
    omega (
      arith,
      c.loop-n.invariant k (omega (arith, over, below)),
      get_or_default c.args.numbers.now k n 0 below,
      here,
    )
