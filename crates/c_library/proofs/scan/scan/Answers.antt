use Rattle.c_library.proofs.Scans.{found_in_line}
use Rattle.c_library.proofs.scan.scan.Goals as goal

pub returns-in-2 : goal.returns-in-2
returns-in-2 c =
    λ p at. found_in_line c.args.kind c.args.longest c.args.scanner p c.args.piece.now c.in_line.result c.in-2.is
    c.in_line.ensures at
