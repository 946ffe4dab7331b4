use Rattle.std.proofs.Common.{[], take}
use Rattle.store_expiry.specs.Lines.{AreApart}
use Rattle.store_expiry.specs.Turns.{ArePartedIn}
use Rattle.store_expiry.proofs.turns.sort_out.Given as goal

abbrev pub invariant-names : goal.invariant-names
invariant-names l = AreApart l.names → ArePartedIn [] l.fn.days.items l.fn.others.items
    → ArePartedIn (take l.name-index l.names) l.days.items l.others.items
