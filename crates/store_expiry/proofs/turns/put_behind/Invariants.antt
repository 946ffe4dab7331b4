use Rattle.std.proofs.Common.{◌≡◌, ◌++◌, take}
use Rattle.store_expiry.proofs.turns.put_behind.Given as goal

abbrev pub invariant-names : goal.invariant-names
invariant-names l = l.front.items ≡ l.fn.front.items ++ take l.name-index l.names
