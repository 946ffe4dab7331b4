use Rattle.std.proofs.Common.{◌≡◌, get_or, arith}
use Rattle.std.proofs.lemmas.Bool.Decides.{nat_tests}
use Rattle.std.proofs.lemmas.List.{length-take}
use Rattle.syslog_frame.proofs.Borrowing.{line_borrowed}
use Rattle.syslog_frame.proofs.frame_ref.line.Goals as goal

pub returns : goal.returns
returns c =
    let f = c.in-Some.ensures in
    let is : get_or c.args.octets.now c.in-Some.at 0 ≡ 10 = grind (arith, nat_tests, f.1) in
    rw c.split_at.ensures.front (
      line_borrowed c.args.octets.now c.in-Some.at f.0.high f.0.before is,
      omega (arith, f.0.high),
      omega (arith, c.if-at-gt-FRAME_MAX.false, length-take c.in-Some.at c.args.octets.now),
    )
