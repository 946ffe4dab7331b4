use Rattle.std.proofs.Common.{arith, refl}
use Rattle.c_library.proofs.Passing.{good_shorter, passed_all, passed_more, passed_none}
use Rattle.c_library.proofs.pass.pass.Goals as goal

pub frames-init : goal.frames-init
frames-init c = (passed_none c.args.kind c.args.piece.now, omega arith)

pub frames-preserved : goal.frames-preserved
frames-preserved c = (
  passed_more c.args.kind c.args.piece.now c.frames.rest.now c.in-Some.behind.now c.frames.count c.in-Some.ensures
      c.frames.invariant.0,
  omega (arith, c.frames.invariant.1, good_shorter c.args.kind c.frames.rest.now c.in-Some.behind.now c.in-Some.ensures),
)

pub frames-smaller : goal.frames-smaller
frames-smaller c =
    omega (arith, good_shorter c.args.kind c.frames.rest.now c.in-Some.behind.now c.in-Some.ensures)

pub returns : goal.returns
returns c = passed_all c.args.kind c.args.piece.now c.frames.rest.now _ c.frames.count refl c.frames.invariant.0
    c.in_default.ensures
