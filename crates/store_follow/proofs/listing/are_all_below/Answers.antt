use Rattle.std.proofs.Common.{arith}
use Rattle.store_follow.proofs.listing.are_all_below.Goals as goal

pub returns-clause-below : goal.returns-clause-below
returns-clause-below c = λ is up m has. omega (arith, c.if-newest-number.false, c.in-Some.ensures.greatest up m has)
