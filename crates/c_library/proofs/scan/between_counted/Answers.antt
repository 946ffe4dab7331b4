use Rattle.std.proofs.Common.{arith}
use Rattle.c_library.proofs.Scans.{counted_begun}
use Rattle.c_library.proofs.scan.between_counted.Goals as goal

pub returns-then-end-start : goal.returns-then-end-start
returns-then-end-start c =
    counted_begun c.args.longest c.args.piece.now c.in-Waits.start c.in-Waits.end c.in-Waits.ensures.is.2
    (omega (arith, c.if-end-start.true))
