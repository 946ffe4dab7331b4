use Rattle.std.proofs.Common.{◌+◌, ◌-◌, ◌/◌, arith}
use Rattle.store_expiry.proofs.Rooms.{falls}
use Rattle.store_expiry.proofs.room.first_day.Goals as goal

pub halved-preserved : goal.halved-preserved
halved-preserved c =
    let middle = c.halved.low + (c.halved.high - c.halved.low) / 2 in
    record {
      ordered = omega (arith, c.halved-test.true);
      within = c.halved.invariant.within;
      fits = c.halved.invariant.fits;
      needed = λ n left less is. omega (
        arith,
        c.if-left_at-most.false,
        falls c.args.undated c.args.segments.now n middle left c.left_at.result (omega (arith, less)) is
            c.left_at.ensures,
      );
    }

pub returns-clause-needed : goal.returns-clause-needed
returns-clause-needed c n left less is =
    c.halved.invariant.needed n left (omega (arith, less, c.halved-test.false)) is
