use Rattle.std.proofs.Common.{◌≡◌, ◌∷◌, [], length, drop, get_or, take, refl, sym, arith, subst}
use Rattle.std.proofs.lemmas.Bool.Decides.{nat_tests}
use Rattle.std.proofs.lemmas.List.{length-take, take-append-drop, take_all}
use Rattle.syslog_frame.specs.Frames.{IsLine}
use Rattle.syslog_frame.proofs.Borrowing.{line_borrowed}
use Rattle.syslog_frame.proofs.Lines.{nowhere}
use Rattle.syslog_frame.proofs.Standing.{none_in_line}
use Rattle.c_library.proofs.frame.next_line.Goals as goal

pub returns-in-Some-clause-is : goal.returns-in-Some-clause-is
returns-in-Some-clause-is c =
    let b = c.args.piece.now in
    let at = c.in-Some.end in
    let f = c.in-Some.ensures in
    let is : get_or b at 0 ≡ 10 = grind (arith, nat_tests, f.1) in
    record {
      frame = take at b;
      within = omega (arith, f.0.high);
      whole = line_borrowed b at f.0.high f.0.before is;
      lies = record { before = []; behind = drop at b; parts = sym (take-append-drop at b); at_is = refl };
      end_is = omega (arith, f.0.high, length-take at b);
    }

pub returns-in-None-clause-is : goal.returns-in-None-clause-is
returns-in-None-clause-is c =
    let b = c.args.piece.now in
    let line : IsLine b = subst IsLine (take_all (length b) b (omega arith)) (nowhere b (length b) (omega arith)
    c.in-None.ensures) in
    (none_in_line b line, (10 ∷ [], (b, (line, refl))), (line, refl, refl))
