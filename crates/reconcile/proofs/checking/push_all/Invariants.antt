use Rattle.std.proofs.Common.{◌≡◌, ◌++◌}
use Rattle.reconcile.specs.Requests.{joined, lists_of}
use Rattle.reconcile.proofs.checking.push_all.Given as goal

abbrev pub invariant-cuts : goal.invariant-cuts
invariant-cuts l = l.pending.items ≡ l.fn.pending.items ++ joined (lists_of l.yielded)
