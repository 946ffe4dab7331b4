use Rattle.std.proofs.Common.{arith, reverse}
use Rattle.reconcile.proofs.Merges.{merged, merging_pushed, popped_none}
use Rattle.reconcile.proofs.merging.merge.Goals as goal

pub merging-preserved : goal.merging-preserved
merging-preserved c =
    let took = c.in-Some-pop_last.ensures in
    record {
      merging = merging_pushed c.args.places.now.items c.args.others.items c.merging.places.items
          c.merging.others.items c.merging.whole.items c.pop_last.new.a.items c.pop_last.new.b.items
          c.push_within.new.places.items c.in-Some-pop_last.place c.merging.invariant.merging took
          c.push_within.ensures.items;
      room = omega (
        arith,
        took.fewer,
        c.merging.invariant.room,
        c.push_within.ensures.len,
        c.push_within.ensures.capacity,
      );
    }

pub returns-clause-ok : goal.returns-clause-ok
returns-clause-ok c =
    let none = popped_none c.pop_last.result _ _ c.pop_last.ensures c.in_default-pop_last.not-Some in
    merged c.args.places.now.items c.args.others.items c.merging.places.items c.merging.others.items
    (reverse c.merging.whole.items) c.reverse.new.self.items c.requires.places c.requires.others
    c.merging.invariant.merging none.0 none.1 c.reverse.ensures.items
