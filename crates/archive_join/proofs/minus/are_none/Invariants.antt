use Rattle.std.proofs.Common.{◌≡◌, Bool, false, take}
use Rattle.std.specs.List.{AllByRecursion}
use Rattle.archive_join.proofs.minus.are_none.Given as goal

abbrev pub invariant-loop-has : goal.invariant-loop-has
invariant-loop-has l = AllByRecursion (λ (b : Bool). b ≡ false) (take l.has-index l.holders)
