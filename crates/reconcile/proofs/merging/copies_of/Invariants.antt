use Rattle.std.proofs.Common.{◌≡◌, take}
use Rattle.reconcile.proofs.merging.copies_of.Given as goal

abbrev pub invariant-copying : goal.invariant-copying
invariant-copying l = l.copies.items ≡ take l.place-index l.places
