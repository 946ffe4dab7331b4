use Rattle.std.proofs.Common.{◌≤◌, length, drop, ap, arith}
use Rattle.std.proofs.lemmas.List.{length-drop, length-take}
use Rattle.syslog_frame.proofs.Borrowing.{counted_borrowed, none_counted_long, none_counted_short}
use Rattle.syslog_frame.proofs.frame_ref.counted_record.Goals as goal

pub returns-then-count : goal.returns-then-count
returns-then-count c =
    none_counted_long _ c.args.count c.args.used c.args.octets.now c.requires.small c.requires.digits c.if-count.true

pub returns-then-len-behind : goal.returns-then-len-behind
returns-then-len-behind c =
    none_counted_short _ c.args.count c.args.used c.args.octets.now c.requires.small c.requires.digits
    (omega (arith, c.if-len-behind.true, ap length c.split_at.ensures.back))

pub returns : goal.returns
returns c =
    let le : c.args.count ≤ length (drop c.args.used c.args.octets.now) =
    omega (arith, c.if-len-behind.false, ap length c.split_at.ensures.back) in
    let borrowed = counted_borrowed c.args.count c.args.used c.args.octets.now c.requires.some c.requires.small
    c.requires.within c.requires.digits le in
    rw (c.split_at-2.ensures.front, c.split_at.ensures.back) (
      borrowed,
      omega (arith, le, length-drop c.args.used c.args.octets.now, c.requires.within, c.requires.some),
      omega (arith, c.if-count.false, length-take c.args.count (drop c.args.used c.args.octets.now)),
    )
