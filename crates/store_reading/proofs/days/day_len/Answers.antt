use Rattle.std.proofs.Common.{arith, refl}
use Rattle.store_reading.proofs.Parted.{front_ends, front_more, shorter}
use Rattle.store_reading.proofs.days.day_len.Goals as goal

pub entries-preserved : goal.entries-preserved
entries-preserved c =
    let b = c.in-Some.ensures.some in
    record {
      front = front_more c.args.day.now c.args.text.now c.entries.rest.now c.in-Some.behind.now
          c.entries.invariant.front b;
      short = omega (arith, shorter c.entries.rest.now b.0 c.in-Some.behind.now b.1, c.entries.invariant.short);
    }

pub entries-smaller : goal.entries-smaller
entries-smaller c = let b = c.in-Some.ensures.some in shorter c.entries.rest.now b.0 c.in-Some.behind.now b.1

pub returns-clause-parts : goal.returns-clause-parts
returns-clause-parts c =
    front_ends c.args.day.now c.args.text.now c.entries.rest.now _ c.entries.invariant.front c.in_default.ensures.none
    refl
