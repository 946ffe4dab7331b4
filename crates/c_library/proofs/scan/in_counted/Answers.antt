use Rattle.std.proofs.Common.{arith}
use Rattle.c_library.proofs.Scans.{counted_on, counted_over}
use Rattle.c_library.proofs.scan.in_counted.Goals as goal

pub returns-then-left-piece : goal.returns-then-left-piece
returns-then-left-piece c =
    λ longest p h. counted_over longest c.args.left p c.args.piece.now h (omega (arith, c.if-left-piece.true))

pub returns : goal.returns
returns c =
    λ longest p h. counted_on longest c.args.left p c.args.piece.now h (omega (arith, c.if-left-piece.false))
