use Rattle.std.proofs.Common.{◌<◌, length, drop, take, refl, sym, arith, inl, inr}
use Rattle.std.proofs.lemmas.List.{length-drop, take-append-drop}
use Rattle.c_library.proofs.Counting.{awaited_begins, awaited_none, begins_counted, complete, none_counted}
use Rattle.c_library.proofs.Counting.{not_begun, offset_counted}
use Rattle.c_library.proofs.frame.next_counted.Goals as goal

pub returns-in-Part-clause-is : goal.returns-in-Part-clause-is
returns-in-Part-clause-is c =
    let h = c.in-Part.ensures in
    (none_counted c.args.piece.now h.0, begins_counted c.args.piece.now h.1, inr (h.0, refl, refl))

pub returns-in-Bad-clause-is : goal.returns-in-Bad-clause-is
returns-in-Bad-clause-is c =
    let h = c.in-Bad.ensures in (
      none_counted c.args.piece.now h.0,
      not_begun c.args.piece.now h.0 h.1,
      offset_counted c.args.piece.now c.in-Bad.at h.0 h.2,
    )

pub returns-then-end-piece-clause-is : goal.returns-then-end-piece-clause-is
returns-then-end-piece-clause-is c =
    let b = c.args.piece.now in
    let h = c.in-Whole.ensures in
    let m = c.in-Whole.count in
    let n = c.in-Whole.used in
    let short : length (drop n b) < m = omega (arith, c.if-end-piece.true, length-drop n b, h.0) in (
      awaited_none b m n h.1 short,
      awaited_begins b m n h.1 short,
      inl (
        m,
        drop n b,
        (take n b, sym (take-append-drop n b), h.1),
        omega (arith, length-drop n b, h.0),
        refl,
        omega (arith, c.if-end-piece.true),
      ),
    )

pub returns-clause-is : goal.returns-clause-is
returns-clause-is c =
    let h = c.in-Whole.ensures in
    complete c.args.piece.now c.in-Whole.count c.in-Whole.used h.0 h.1 (omega (arith, c.if-end-piece.false))
