use Rattle.std.proofs.Common.{arith, get_or, length, subst, ◌≡◌}
use Rattle.std.proofs.lemmas.Bool.Decides.{nat_tests}
use Rattle.std.proofs.lemmas.List.{take_all}
use Rattle.syslog_frame.specs.Frames.{IsLine}
use Rattle.syslog_frame.proofs.Lines.{nowhere}
use Rattle.c_library.proofs.Scans.{line_on, line_over}
use Rattle.c_library.proofs.scan.in_line.Goals as goal

pub returns-in-Some : goal.returns-in-Some
returns-in-Some c =
    let b = c.args.piece.now in
    let at = c.in-Some.at in
    let f = c.in-Some.ensures in
    let is : get_or b at 0 ≡ 10 = grind (arith, nat_tests, f.1) in
    λ longest p line long. line_over longest at p b line long f.0.high (nowhere b at (omega (arith, f.0.high)) f.0.before) is

pub returns-in-None : goal.returns-in-None
returns-in-None c =
    let b = c.args.piece.now in
    let free : IsLine b =
    subst IsLine (take_all (length b) b (omega arith)) (nowhere b (length b) (omega arith) c.in-None.ensures) in
    λ longest p line long. line_on longest p b line long free
