use Rattle.std.proofs.Common.{◌≡◌, take}
use Rattle.reconcile.specs.Honest.{ArePartsOf}
use Rattle.reconcile.specs.Ranges.{AreAllProper}
use Rattle.reconcile.specs.Requests.{lists_of}
use Rattle.reconcile.proofs.local.cuts_of.Given as goal

abbrev pub invariant-parts : goal.invariant-parts
invariant-parts g l = record {
  kept : g.S.RangedSet.entries l.set ≡ g.S.RangedSet.entries l.fn.set;
  cuts : AreAllProper l.parts → ArePartsOf (g.S.RangedSet.entries l.fn.set) (take l.part-index l.parts)
      (lists_of l.cuts.items);
}
