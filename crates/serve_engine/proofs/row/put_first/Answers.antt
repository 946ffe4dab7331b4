use Rattle.std.proofs.Common.{arith}
use Rattle.serve_engine.proofs.Rows.{finished, found, stands_first}
use Rattle.serve_engine.proofs.row.put_first.Goals as goal

pub returns-then-was-bucket : goal.returns-then-was-bucket
returns-then-was-bucket c = stands_first c.args.bucket c.args.row.now _ (omega (arith, c.told-row))
    (found _ c.loop-place.next _ c.loop-place.row _ c.loop-place.place (omega (arith, c.loop-place.invariant.long)) c.if-was-bucket.true c.loop-place.invariant.shifts)

pub returns : goal.returns
returns c = stands_first c.args.bucket c.args.row.now _ (omega (arith, c.told-row))
    (finished _ c.loop-place.next c.loop-place.row _ c.loop-place.place (omega (arith, c.loop-place.invariant.long)) c.loop-place.invariant.shifts)
