use Rattle.std.proofs.Common.{◌≡◌, ◌+◌, ◌-◌, arith, sym}
use Rattle.c_library.proofs.Placing.{placed_behind, placed_parts}
use Rattle.c_library.proofs.part.place.Goals as goal

pub returns-then-at-room : goal.returns-then-at-room
returns-then-at-room c =
    sym (placed_behind c.args.at c.args.spans.now c.args.room.now (omega (arith, c.if-at-room.true)))

pub returns : goal.returns
returns c =
    let n = c.min-fitting.result in
    let is : c.args.at + n - c.args.at ≡ n = omega arith in
    rw (is, c.copy_from_slice.ensures.after)
    (sym (placed_parts c.args.at c.args.spans.now c.args.room.now n (omega (arith, c.if-at-room.false))
    (omega (arith, c.min-fitting.ensures)) (omega (arith, c.min-fitting.ensures, c.if-at-room.false))
    (λ lt. omega (arith, lt, c.min-fitting.ensures, c.if-at-room.false))))
