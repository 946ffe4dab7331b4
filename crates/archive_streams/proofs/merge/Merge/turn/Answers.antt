use Rattle.std.proofs.Common.{◌≡◌, ◌+◌, length, ap, arith}
use Rattle.std.proofs.lemmas.Result.{IfErr-weaker, on_ok_weaker}
use Rattle.archive_streams.specs.declared.side.ArchiveReader.{ArchiveReader}
use Rattle.archive_streams.proofs.Turns.{at_err, falls_both, on_ok_then}
use Rattle.archive_streams.proofs.merge.Merge.turn.Goals as goal

pub returns-in_ok-advance_left-in-Equal-clause-falls : goal.returns-in_ok-advance_left-in-Equal-clause-falls
returns-in_ok-advance_left-in-Equal-clause-falls g c =
    let old = c.args.self.now in
    let new = c.advance_right-in-Equal.new.self in
    let order = rw c.in-Equal.is at c.requires.order in
    let same = c.advance_right-in-Equal.ensures.kept.left in
    let left : new.left.position ≡ old.left.position + length new.left.entry.text.items =
    omega (
      arith,
      ap (λ (r : ArchiveReader). r.position) same,
      ap (λ (r : ArchiveReader). length r.entry.text.items) same,
      c.in_ok-advance_left-in-Equal.ensures.on.position,
      c.write_left-in-Equal.ensures.taken.position,
    ) in
    let kept = ap (λ (r : ArchiveReader). r.position) c.advance_left-in-Equal.ensures.kept.right in
    let before = ap (λ (r : ArchiveReader). r.position) c.write_left-in-Equal.ensures.taken.right in
    on_ok_weaker c.advance_right-in-Equal.result
    (λ right. falls_both old new c.requires.steady order.0 order.1 left
    (omega (arith, right.position, kept, before))) c.advance_right-in-Equal.ensures.on

pub returns-in_ok-write_left-in-Less-clause-joins : goal.returns-in_ok-write_left-in-Less-clause-joins
returns-in_ok-write_left-in-Less-clause-joins g c =
    let order = rw c.in-Less.is at c.requires.order in
    on_ok_then c.advance_left.result _ _ c.advance_left.ensures.ready
    (λ ready dl dr start s. ready.alone dl dr _ start _
    (c.in_ok-write_left-in-Less.ensures.written.less dl _ dr _ start order.1 s))

pub returns-in_ok-write_right-in-Greater-clause-joins : goal.returns-in_ok-write_right-in-Greater-clause-joins
returns-in_ok-write_right-in-Greater-clause-joins g c =
    let order = rw c.in-Greater.is at c.requires.order in
    on_ok_then c.advance_right.result _ _ c.advance_right.ensures.ready
    (λ ready dl dr start s. ready dl _ dr start _
    (c.in_ok-write_right-in-Greater.ensures.written dl _ dr _ start order.1 s))

pub returns-in_ok-advance_left-in-Equal-clause-joins : goal.returns-in_ok-advance_left-in-Equal-clause-joins
returns-in_ok-advance_left-in-Equal-clause-joins g c =
    let order = rw c.in-Equal.is at c.requires.order in
    on_ok_then c.advance_right-in-Equal.result _ _ c.advance_right-in-Equal.ensures.ready
    (λ ready dl dr start s.
    ready dl _ dr start _ (c.in_ok-advance_left-in-Equal.ensures.ready.first dl dr _ start _
    (c.in_ok-write_left-in-Equal.ensures.written.equal dl _ dr _ start order.1 order.2 s)))

pub returns-in_err-write_left-in-Less-clause-halted : goal.returns-in_err-write_left-in-Less-clause-halted
returns-in_err-write_left-in-Less-clause-halted g c =
    let order = rw c.in-Less.is at c.requires.order in
    at_err c.from_residual.result c.in_err-write_left-in-Less.field-0.0 _ c.from_residual.ensures.1
    (λ dl dr start s. c.in_err-write_left-in-Less.ensures.halted.less dl _ dr _ start order.1 s)

pub returns-in_ok-write_left-in-Less-clause-halted : goal.returns-in_ok-write_left-in-Less-clause-halted
returns-in_ok-write_left-in-Less-clause-halted g c =
    let order = rw c.in-Less.is at c.requires.order in
    IfErr-weaker c.advance_left.result _ _ (λ fault h dl dr start s.
    h.alone dl dr _ start _ (c.in_ok-write_left-in-Less.ensures.written.less dl _ dr _ start order.1 s))
    c.advance_left.ensures.halted

pub returns-in_err-write_right-in-Greater-clause-halted : goal.returns-in_err-write_right-in-Greater-clause-halted
returns-in_err-write_right-in-Greater-clause-halted g c =
    let order = rw c.in-Greater.is at c.requires.order in
    at_err c.from_residual-in_err-write_right-in-Greater.result c.in_err-write_right-in-Greater.field-0.0 _
    c.from_residual-in_err-write_right-in-Greater.ensures.1
    (λ dl dr start s. c.in_err-write_right-in-Greater.ensures.halted dl _ dr _ start order.1 s)

pub returns-in_ok-write_right-in-Greater-clause-halted : goal.returns-in_ok-write_right-in-Greater-clause-halted
returns-in_ok-write_right-in-Greater-clause-halted g c =
    let order = rw c.in-Greater.is at c.requires.order in
    IfErr-weaker c.advance_right.result _ _ (λ fault h dl dr start s.
    h dl _ dr start _ (c.in_ok-write_right-in-Greater.ensures.written dl _ dr _ start order.1 s))
    c.advance_right.ensures.halted

pub returns-in_err-write_left-in-Equal-clause-halted : goal.returns-in_err-write_left-in-Equal-clause-halted
returns-in_err-write_left-in-Equal-clause-halted g c =
    let order = rw c.in-Equal.is at c.requires.order in
    at_err c.from_residual-in_err-write_left-in-Equal.result c.in_err-write_left-in-Equal.field-0.0 _
    c.from_residual-in_err-write_left-in-Equal.ensures.1
    (λ dl dr start s. c.in_err-write_left-in-Equal.ensures.halted.equal dl _ dr _ start order.1 order.2 s)

pub returns-in_err-advance_left-in-Equal-clause-halted : goal.returns-in_err-advance_left-in-Equal-clause-halted
returns-in_err-advance_left-in-Equal-clause-halted g c =
    let order = rw c.in-Equal.is at c.requires.order in
    at_err c.from_residual-in_err-advance_left-in-Equal.result c.in_err-advance_left-in-Equal.field-0.0 _
    c.from_residual-in_err-advance_left-in-Equal.ensures.1
    (λ dl dr start s. c.in_err-advance_left-in-Equal.ensures.halted.first dl dr _ start _
    (c.in_ok-write_left-in-Equal.ensures.written.equal dl _ dr _ start order.1 order.2 s))

pub returns-in_ok-advance_left-in-Equal-clause-halted : goal.returns-in_ok-advance_left-in-Equal-clause-halted
returns-in_ok-advance_left-in-Equal-clause-halted g c =
    let order = rw c.in-Equal.is at c.requires.order in
    IfErr-weaker c.advance_right-in-Equal.result _ _
    (λ fault h dl dr start s.
    h dl _ dr start _ (c.in_ok-advance_left-in-Equal.ensures.ready.first dl dr _ start _
    (c.in_ok-write_left-in-Equal.ensures.written.equal dl _ dr _ start order.1 order.2 s)))
    c.advance_right-in-Equal.ensures.halted
